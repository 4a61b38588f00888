use Rattle.std.proofs.Common.{◌≡◌, true}
use Rattle.rht_script.specs.CommandLines.{command_of}
use Rattle.rht_script.specs.Sound.{is_sound_command}
use Rattle.rht_script.proofs.SayableScripts.{command_sound, IfOk-coded}
use Rattle.rht_script.proofs.reader.parts.command_line.Goals as goal

pub returns-clause-sound : goal.returns-clause-sound
returns-clause-sound c =
    let table = c.args.table.now in
    rw (c.coded.ensures, c.first_command.ensures)
    (IfOk-coded (λ command. is_sound_command table.form table.config command ≡ true) (command_of table c.new.result)
    (command_sound table c.new.result))

use Rattle.account_machine.proofs.Renumbered.{loaded-start}
use Rattle.account_machine.proofs.Starts.{opening-fits}
use Rattle.account_machine.proofs.SoundStarts.{loaded-sound, opened-sound}
use Rattle.account_machine.proofs.laws.starts_are_sound.Goals as goal

pub returns-clause-opened : goal.returns-clause-opened
returns-clause-opened c = opened-sound

pub returns-clause-loaded : goal.returns-clause-loaded
returns-clause-loaded c = loaded-sound

pub returns-clause-opened_records : goal.returns-clause-opened_records
returns-clause-opened_records c = opening-fits

pub returns-clause-loaded_records : goal.returns-clause-loaded_records
returns-clause-loaded_records c rows accounts ascend loadable = (loaded-start rows accounts ascend loadable.records).fits

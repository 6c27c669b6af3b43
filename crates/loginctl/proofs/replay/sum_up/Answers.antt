use Rattle.script_text.specs.Reading.{setup_of, start}
use Rattle.large_script.specs.Generating.{generated_events}
use Rattle.loginctl.proofs.Dues.{due-summed}
use Rattle.loginctl.proofs.replay.sum_up.Goals as goal

pub returns : goal.returns
returns c =
    due-summed c.generated_line.result c.args.number
    (c.histories_are_legal.ensures (setup_of start).accounts (setup_of start).settings (generated_events c.args.number))
    c.generated_line.ensures

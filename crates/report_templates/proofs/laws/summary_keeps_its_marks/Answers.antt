use Rattle.report_templates.specs.Sound.{summary_parts}
use Rattle.report_templates.proofs.laws.summary_keeps_its_marks.Goals as goal

pub returns : goal.returns
returns c vs =
    let sound = c.markdown_is_sound.ensures in
    record { own = c.no_value_is_mark.ensures summary_parts vs sound.markdown; clean = c.renders_no_controls.ensures summary_parts vs sound.clean }

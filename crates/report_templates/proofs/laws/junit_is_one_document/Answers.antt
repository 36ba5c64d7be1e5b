use Rattle.report_templates.specs.Sound.{junit_parts}
use Rattle.report_templates.proofs.laws.junit_is_one_document.Goals as goal

pub returns : goal.returns
returns c vs =
    let sound = c.junit_is_sound.ensures in
    let one = c.renders_one_tree.ensures junit_parts vs sound.document in
    record { tree = one.0; read = one.1; filled = one.2; clean = c.renders_no_controls.ensures junit_parts vs sound.clean }

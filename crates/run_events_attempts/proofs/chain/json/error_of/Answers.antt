use Rattle.std.proofs.Common.{◌∙◌, rules}
use Rattle.run_events_attempts.proofs.ChainLemmas.{no_text_pushed, text_pushed, texts_of_more}
use Rattle.run_events_attempts.proofs.chain.json.error_of.Goals.{in-Some+in_ok-from_str+in_ok-push, in_default}
use Rattle.run_events_attempts.proofs.chain.json.error_of.Goals as goal

pub loop-cause-preserved : goal.loop-cause-preserved
loop-cause-preserved c =
    let more = texts_of_more c.args.causes.now c.loop-cause.cause-index c.cause-item.result c.loop-cause-test.true c.cause-item.is in
    elim c.match-as_str.branch [
      | in-Some+in_ok-from_str+in_ok-push w ↦
          rw (w.texts-is, w.in_ok-push.ensures.items)
          (text_pushed _ _ _ _ _ c.loop-cause.invariant (search rules) more)
      | in_default w ↦ rw w.texts-is (c.loop-cause.invariant ∙ no_text_pushed _ _ _ (search rules) more)
    ]

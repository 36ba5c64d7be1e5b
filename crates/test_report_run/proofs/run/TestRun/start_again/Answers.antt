-- A suite without a key ends early when another one starts.
use Rattle.std.proofs.Common.{◌≡◌, ◌∙◌, ◌++◌, None, Some, ap, append-nil, false, map, sym, true}
use Rattle.std.proofs.lemmas.List.Quantifiers.{position-Some}
use Rattle.std.proofs.lemmas.Result.{IfOk-equal, on_ok_weaker}
use Rattle.test_report_run_notes.specs.Note.{note_view, text_view}
use Rattle.test_report_run.specs.Over.{EarlyEnd}
use Rattle.test_report_run.specs.Run.{Step, ended_early, open_suite, run_state, step, suite_at}
use Rattle.test_report_run.specs.Suite.{SuiteState, has_key, state_of}
use Rattle.test_report_run.proofs.OpenSteps.{own-key}
use Rattle.test_report_run.proofs.Runs.{again-joins, again-opens, key-seen}
use Rattle.test_report_run.proofs.run.TestRun.start_again.Goals as goal

pub open-requires : goal.open-requires
open-requires c =
    let r = run_state c.args.self.now in
    let key = text_view c.args.key in
    let out = c.take_out-suite.ensures in
    let has : has_key key (suite_at r (Some c.args.at)) ≡ true = (position-Some (has_key key) r.suites c.args.at r.outside c.requires.has_key).1 in
    let own : (state_of c.take_out-suite.result).key ≡ key =
    ap (λ (s : SuiteState). s.key) out.suite ∙ own-key key (suite_at r (Some c.args.at)) has in
    let gone : open_suite (run_state c.take_out-suite.new.self) key ≡ None = ap (open_suite (run_state c.take_out-suite.new.self)) (sym own) ∙ out.key in
    ap (λ (t : Step). open_suite t.run key) c.in_ok-end_early.ensures ∙ gone

pub returns-then-is_some-clause-takes : goal.returns-then-is_some-clause-takes
returns-then-is_some-clause-takes c =
    IfOk-equal c.join.result _ _ _ c.join.ensures (ap (λ (t : Step). t.run)
    (again-joins (run_state c.args.self.now) (text_view c.args.key) c.args.test_count c.args.at (key-seen c.args.key true (cc))))

pub returns-then-is_some-clause-tells : goal.returns-then-is_some-clause-tells
returns-then-is_some-clause-tells c =
    let notes = map note_view c.args.notes.now.items in
    on_ok_weaker c.join.result (λ joins. sym (append-nil notes) ∙ ap (λ (t : Step). notes ++ t.notes)
    (again-joins (run_state c.args.self.now) (text_view c.args.key) c.args.test_count c.args.at (key-seen c.args.key true (cc)))) c.join.ensures

pub returns-in_ok-end_early-clause-takes : goal.returns-in_ok-end_early-clause-takes
returns-in_ok-end_early-clause-takes c =
    let out = c.take_out-suite.ensures in
    let told = again-opens (run_state c.args.self.now) (run_state c.take_out-suite.new.self) (text_view c.args.key) c.args.test_count c.args.at
    (state_of c.take_out-suite.result) (step (run_state c.end_early.new.self) (map note_view c.end_early.new.notes.items))
    (map note_view c.args.notes.now.items) (key-seen c.args.key false (cc)) out.suite out.left
    (c.in_ok-end_early.ensures ∙ ap (λ (how : EarlyEnd). ended_early how (step (run_state c.take_out-suite.new.self) (map note_view c.args.notes.now.items))
    (state_of c.take_out-suite.result)) c.unknown.ensures) in
    IfOk-equal c.open.result _ _ _ c.open.ensures.takes (ap (λ (t : Step). t.run) told)

pub returns-in_ok-end_early-clause-tells : goal.returns-in_ok-end_early-clause-tells
returns-in_ok-end_early-clause-tells c =
    let out = c.take_out-suite.ensures in
    let told = again-opens (run_state c.args.self.now) (run_state c.take_out-suite.new.self) (text_view c.args.key) c.args.test_count c.args.at
    (state_of c.take_out-suite.result) (step (run_state c.end_early.new.self) (map note_view c.end_early.new.notes.items))
    (map note_view c.args.notes.now.items) (key-seen c.args.key false (cc)) out.suite out.left
    (c.in_ok-end_early.ensures ∙ ap (λ (how : EarlyEnd). ended_early how (step (run_state c.take_out-suite.new.self) (map note_view c.args.notes.now.items))
    (state_of c.take_out-suite.result)) c.unknown.ensures) in
    on_ok_weaker c.open.result (λ opens. ap (λ (t : Step). t.notes) told) c.open.ensures.takes

-- The view of an entry that decides the counters.
use Rattle.run_events_results.specs.ViewedTest.{finished_view}
use Rattle.run_events_stats.specs.Counters.{ScriptUnit, TestUnit}
use Rattle.run_digest_engine.specs.Reader.{EntryView, SubRunEntry, UnitEntry}
use Rattle.run_digest_engine.specs.declared.entry.Entry.{Entry}
use Rattle.run_digest_engine.specs.declared.entry.Entry.TheVariants.{Script, SubRun, Test}

-- the view of an entry
abbrev pub entry_view : Entry → EntryView
entry_view (Script result) = UnitEntry (ScriptUnit result)
entry_view (Test test) = UnitEntry (TestUnit (finished_view test))
entry_view (SubRun start) = SubRunEntry start

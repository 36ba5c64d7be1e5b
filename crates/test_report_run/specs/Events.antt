-- Kinds of events.
use Rattle.std.specs.Prelude.{Bool, true, false}
use Rattle.test_report_events.specs.Event.{EventView, SuiteStarts, SuiteEnds, TestStarts, TestEnds, TestIsSlow, OtherLine, HeadingLine, CargoFails, Prints, DamagedLine, CommandStarts, CommandOver, Cancels, AllEndEarly, ProgramContradicts}

-- the line is an event of a harness
abbrev pub is_event : EventView → Bool
is_event (SuiteStarts key count) = true
is_event (SuiteEnds e) = true
is_event (TestStarts name) = true
is_event (TestEnds e) = true
is_event (TestIsSlow name) = true
is_event OtherLine = true
is_event (HeadingLine name path) = false
is_event (CargoFails f line plain) = false
is_event (Prints line plain) = false
is_event (DamagedLine text) = false
is_event (CommandStarts names) = false
is_event (CommandOver end) = false
is_event (Cancels reason) = false
is_event (AllEndEarly end) = false
is_event (ProgramContradicts fault) = false

-- a heading, an event or a failure comes after all that may say why cargo failed before it
abbrev pub is_after_report : EventView → Bool
is_after_report (SuiteStarts key count) = true
is_after_report (SuiteEnds e) = true
is_after_report (TestStarts name) = true
is_after_report (TestEnds e) = true
is_after_report (TestIsSlow name) = true
is_after_report OtherLine = true
is_after_report (HeadingLine name path) = true
is_after_report (CargoFails f line plain) = true
is_after_report (Prints line plain) = false
is_after_report (DamagedLine text) = false
is_after_report (CommandStarts names) = false
is_after_report (CommandOver end) = false
is_after_report (Cancels reason) = false
is_after_report (AllEndEarly end) = false
is_after_report (ProgramContradicts fault) = false

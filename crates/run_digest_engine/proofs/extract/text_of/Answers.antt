use Rattle.run_digest_engine.proofs.extract.text_of.Goals as goal

pub returns-in-Some-PanicMessage : goal.returns-in-Some-PanicMessage
returns-in-Some-PanicMessage c =
    let is = c.in-Some-PanicMessage.is in
    rw (is, rw is at c.in-Some-PanicMessage.field-0-is) c.part_text.ensures

pub returns-in-Some-ErrorStr : goal.returns-in-Some-ErrorStr
returns-in-Some-ErrorStr c =
    let is = c.in-Some-ErrorStr.is in
    rw (is, rw is at c.in-Some-ErrorStr.field-0-is) c.part_text-in-Some-ErrorStr.ensures

pub returns-in-Some-ShouldPanic : goal.returns-in-Some-ShouldPanic
returns-in-Some-ShouldPanic c =
    let is = c.in-Some-ShouldPanic.is in
    rw (is, rw is at c.in-Some-ShouldPanic.field-0-is) c.part_text-in-Some-ShouldPanic.ensures

use Rattle.bstr.proofs.lemmas.EncodeLemmas.{lossy_chars-utf8}
use Rattle.output_slice.proofs.laws.lossy_text_is_exact.Goals as goal

pub returns : goal.returns
returns c = lossy_chars-utf8

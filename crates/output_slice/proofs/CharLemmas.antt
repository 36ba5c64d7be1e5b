-- The character at an offset, and digits one after another.
use Rattle.output_slice.proofs.Words.{set, get_or-set_other, get_or-set_same, true, ◌↔◌, ◌≡◌, ℕ, ◌+◌, ◌-◌, ◌<◌, ◌≤◌, min, List, [], ◌∷◌, ◌++◌, length, get_or, take, drop, sym, ap, ◌∙◌, arith, length-append, refl, append_assoc, append-nil, All, encode_utf8_all, Some, None, encode_utf8, IsUtf8, get_or-take, length-take-le, IsScalar, take-append-add, and_parts, front_from_reads, front_reads, encode_ascii, encode_same, length-encode, len_utf8_bounds, IsUtf8-append, IsUtf8-encode, IsUtf8-past_char, encodes-append, All-push, All-head, All-tail, part, decoded-encode, piece-bounds, decoded_by-cut, SpellsChar-decoded, IsCharAt, AreDigits, IsDigitRun, IsDigit}
use Rattle.bstr.specs.Utf8.{Decoded, decoded}
use Rattle.output_slice.proofs.OccursLemmas.{get_or-part, length-part, occurs-drop, occurs-both, drop-occurs}
use lib.Utf8.{scalars}

-- a part that begins with a character
part-front : (b rest : List ℕ) (at stop c : ℕ) → IsScalar c → part at stop b ≡ encode_utf8 c ++ rest → stop ≤ length b → IsCharAt b at stop c
part-front b rest at stop c scalar e high =
    let reads = front_reads 0 (part at stop b) (encode_utf8 c) rest e in
    grind (arith, get_or-part, length-part, length-encode, len_utf8_bounds, length-append, ap length e)

-- the first four bytes are decoded in the same way as all bytes
decoded-four : (xs ys : List ℕ) → length ys ≡ min (length xs) 4 → 0 < length xs
    → ((k : ℕ) → k < length ys → get_or ys k 0 ≡ get_or xs k 0) → decoded ys ≡ decoded xs
decoded-four xs ys size some reads =
    let bounds = piece-bounds xs some in
    let byte = λ (ls : List ℕ) (k : ℕ). get_or ls k 0 in
    rw (reads 0 (omega arith)) (decoded_by-cut (length ys) (length xs) (byte xs 0) (byte xs 1) (byte xs 2) (byte xs 3) (byte ys 1) (byte ys 2) (byte ys 3)
    (omega arith) (omega arith) (omega arith) (λ h. reads 1 h) (λ h. reads 2 h) (λ h. reads 3 h))

-- a part that begins with a character is UTF-8 if and only if the rest of it is
pub utf8-char : (b : List ℕ) (at to c n : ℕ) → IsCharAt b at to c → n ≡ length (encode_utf8 c) → IsUtf8 (part at to b) ↔ IsUtf8 (part (at + n) to b)
utf8-char b at to c n h size =
    let text = encode_utf8 c in
    let left = to - (at + length text) in
    let count : to - at ≡ length text + left = omega (arith, h.ends) in
    let e : part at to b ≡ text ++ part (at + n) to b = rw size (ap (λ k. take k (drop at b)) count
    ∙ ap (take (length text + left)) (occurs-drop b text at h.stands) ∙ take-append-add text (drop (at + length text) b) left) in
    (λ whole. IsUtf8-past_char _ _ c whole e, λ rest. rw e (IsUtf8-append text (part (at + n) to b) (IsUtf8-encode c h.scalar) rest))

-- UTF-8 that is not empty begins with a character
pub char-utf8 : (b : List ℕ) (at to : ℕ) → at < to → to ≤ length b → IsUtf8 (part at to b) → (c : ℕ) × IsCharAt b at to c
char-utf8 b at to low high h = by_chars h.0 h.1.0 h.1.1 where
  by_chars : (cs : List ℕ) → scalars cs ≡ true → encode_utf8_all cs ≡ part at to b → (c : ℕ) × IsCharAt b at to c
  by_chars [] all e = absurd (omega (arith, ap length e, length-part b at to high))
  by_chars (c ∷ cs) all e = (c, part-front b (encode_utf8_all cs) at to c (and_parts _ _ all).0 (sym e) high)

-- there is one character at an offset
pub char-same : (b : List ℕ) (at to to' c c' : ℕ) → IsCharAt b at to c → IsCharAt b at to' c' → c ≡ c'
char-same b at to to' c c' h k = (encode_same c c' _ _ (sym (occurs-drop b _ at h.stands) ∙ occurs-drop b _ at k.stands)).0

-- a byte of ASCII is a character
pub ascii-char : (b : List ℕ) (at stop c : ℕ) → c ≡ get_or b at 0 → c < 128 → at < stop → stop ≤ length b
    → IsCharAt b at stop c × (1 ≡ length (encode_utf8 c)) × (0 < 1)
ascii-char b at stop c is small low high = grind (arith, encode_ascii)

-- one byte is not a character outside ASCII
pub one-byte : (b : List ℕ) (at c : ℕ) → 128 ≤ get_or b at 0 → ¬ IsCharAt b at (at + 1) c
one-byte b at c past h = grind (arith, encode_ascii, length-encode)

-- a buffer with one more byte
pub buffer-more : (b buffer : List ℕ) (at i v : ℕ) → i < length buffer → ((k : ℕ) → k < i → get_or buffer k 0 ≡ get_or b (at + k) 0) → v ≡ get_or b (at + i) 0
    → (k : ℕ) → k < i + 1 → get_or (set buffer i v) k 0 ≡ get_or b (at + k) 0
buffer-more b buffer at i v inside reads is k low = grind (arith, get_or-set_other, get_or-set_same)

-- the decoding of the first bytes, if the bytes before the last one are not a character
module _ (b buffer : List ℕ) (at stop i : ℕ) (four : length buffer ≡ 4) (small : i < 4) (inside : at + i < stop) (high : stop ≤ length b)
    (reads : (k : ℕ) → k < i + 1 → get_or buffer k 0 ≡ get_or b (at + k) 0) where
  same : decoded (take (i + 1) buffer) ≡ decoded (part at (at + (i + 1)) b)
  same = grind (arith, decoded-four, get_or-part, get_or-take, length-part, length-take-le)

  -- the character decoded from the bytes so far is the character at that offset
  pub char-some : (c : ℕ) → ((x : ℕ) → ¬ IsCharAt b at (at + i) x) → (decoded (take (i + 1) buffer)).char ≡ Some c
      → IsCharAt b at stop c × (length (encode_utf8 c) ≡ (decoded (take (i + 1) buffer)).size) × (i + 1 ≡ length (encode_utf8 c))
  char-some c before found =
      let spelled = SpellsChar-decoded (part at (at + (i + 1)) b) c (ap (λ (p : Decoded). p.char) (sym same) ∙ found) in
      let stands = part-front b _ at (at + (i + 1)) c spelled.scalar spelled.bytes (omega arith) in
      let size = spelled.width ∙ ap (λ (p : Decoded). p.size) (sym same) in
      let long : i + 1 ≡ length (encode_utf8 c) = grind arith in
      grind arith

  -- if nothing is decoded, no character ends there
  pub char-none : (decoded (take (i + 1) buffer)).char ≡ None → (c : ℕ) → ¬ IsCharAt b at (at + (i + 1)) c
  char-none none c h =
      let rest = part at (at + (i + 1)) b in
      let reads = λ (j : ℕ) (l : j < length (encode_utf8 c)). get_or-part b at (at + (i + 1)) j (omega (arith, h.ends)) ∙ h.stands.reads j l in
      let begins = front_from_reads 0 rest (encode_utf8 c) (omega (arith, h.ends, length-part b at (at + (i + 1)) (omega arith))) reads in
      let read = ap decoded begins ∙ decoded-encode c (drop (length (encode_utf8 c)) rest) h.scalar in
      absurd (cc (none, same, ap (λ (p : Decoded). p.char) read))

-- one more digit after digits
pub digits-more : (b : List ℕ) (from at to c n : ℕ) → AreDigits b from at → IsCharAt b at to c → IsDigit c
    → n ≡ length (encode_utf8 c) → AreDigits b from (at + n)
digits-more b from at to c n h k is size =
    let whole : encode_utf8_all (h.chars ++ c ∷ []) ≡ encode_utf8_all h.chars ++ encode_utf8 c =
    encodes-append h.chars (c ∷ []) ∙ ap (λ t. encode_utf8_all h.chars ++ t) (append-nil (encode_utf8 c)) in record {
      chars = h.chars ++ c ∷ [];
      digits = All-push (λ x. IsScalar x × IsDigit x) h.chars c h.digits (k.scalar, is);
      stands = rw whole (occurs-both b (encode_utf8_all h.chars) (encode_utf8 c) from h.stands (rw h.ends at k.stands));
      ends = rw whole (omega (arith, h.ends, length-append (encode_utf8_all h.chars) (encode_utf8 c)));
    }

-- the text does not begin with a digit
abbrev Stops : List ℕ → Type 0
Stops text = (c : ℕ) (rest : List ℕ) → IsScalar c → IsDigit c → text ≡ encode_utf8 c ++ rest → ⊥

-- a text begins with one run of digits
runs-same : (cs ds r q : List ℕ) → All (λ x. IsScalar x × IsDigit x) cs → All (λ x. IsScalar x × IsDigit x) ds
    → Stops r → Stops q → encode_utf8_all cs ++ r ≡ encode_utf8_all ds ++ q → cs ≡ ds
runs-same [] [] r q ac ad nr nq e = refl
runs-same [] (d ∷ ds) r q ac ad nr nq e = grind (arith, All-head, append_assoc)
runs-same (c ∷ cs) [] r q ac ad nr nq e = grind (arith, All-head, append_assoc)
runs-same (c ∷ cs) (d ∷ ds) r q ac ad nr nq e =
    let heads = encode_same c d (encode_utf8_all cs ++ r) (encode_utf8_all ds ++ q) (simp append_assoc at e) in
    let P = λ (x : ℕ). IsScalar x × IsDigit x in
    let later = runs-same cs ds r q (All-tail P c cs ac) (All-tail P d ds ad) nr nq heads.1 in
    cc (heads.0, later)

-- so a run of digits has one end
pub IsDigitRun-same : (b : List ℕ) (from to to' : ℕ) → IsDigitRun b from to → IsDigitRun b from to' → to ≡ to'
IsDigitRun-same b from to to' h k =
    let same = runs-same h.digits.chars k.digits.chars _ _ h.digits.digits k.digits.digits
    (stops h) (stops k) (sym (occurs-drop b _ from h.digits.stands) ∙ occurs-drop b _ from k.digits.stands) in
    h.digits.ends ∙ ap (λ cs. from + length (encode_utf8_all cs)) same ∙ sym k.digits.ends where
      stops : {at : ℕ} → (run : IsDigitRun b from at) → Stops (drop (from + length (encode_utf8_all run.digits.chars)) b)
      stops {at} run c rest scalar digit e =
          let here : drop at b ≡ encode_utf8 c ++ rest = ap (λ i. drop i b) run.digits.ends ∙ e in
          let stands = drop-occurs b (encode_utf8 c) at rest here (grind (arith, length-encode, len_utf8_bounds)) in
          run.stops c (record { scalar = scalar; stands = stands; ends = stands.fits }) digit

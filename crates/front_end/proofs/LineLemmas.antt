-- How the lines of a script are taken from what comes.
use Rattle.std.proofs.Common.{◌≡◌, ℕ, ◌+◌, List, [], ◌∷◌, ◌++◌, length, length-append, Option, None, Some, refl, sym, ap, ◌∙◌, append_assoc, arith}
use Rattle.std.specs.Io.KnownBytes.{Consumes}
use Rattle.front_end.specs.Lines.{TakesPart, ReadsBytes}

-- what two reads consume, one after the other
pub consumes_both : (o n m : Option (List ℕ)) (a b : List ℕ) → Consumes o n a → Consumes n m b → Consumes o m (a ++ b)
consumes_both None n m a b p q = tt
consumes_both (Some x) None m a b p q = absurd p
consumes_both (Some x) (Some y) None a b p q = absurd q
consumes_both (Some x) (Some y) (Some z) a b p q = p ∙ ap (λ (t : List ℕ). a ++ t) q ∙ sym (append_assoc a b z)

-- what was read, and the bytes of one more read
pub reads_more : (o n m : Option (List ℕ)) (before now : ℕ) (more : List ℕ) → ReadsBytes o n before now → Consumes n m more → ReadsBytes o m before (now + length more)
reads_more o n m before now more read q =
    let size = length-append read.0 more in
    (read.0 ++ more, consumes_both o n m read.0 more read.1 q, omega (arith, size, read.2))

-- the part of a line that has all that waited
pub part_more : (o n : Option (List ℕ)) (b l l' w w' : List ℕ) → TakesPart o n b l w → l' ≡ l ++ w → w' ≡ [] → TakesPart o n b l' w'
part_more None n b l l' w w' p e q = tt
part_more (Some x) None b l l' w w' p e q = absurd p
part_more (Some x) (Some y) b l l' w w' p e q = rw (e, q) (p ∙ sym (append_assoc l w y))

-- the same part, where a read brought what waits now
pub part_filled : (o n m : Option (List ℕ)) (b l w w' : List ℕ) → TakesPart o n b l w → w ≡ [] → Consumes n m w' → TakesPart o m b l w'
part_filled None n m b l w w' p e q = tt
part_filled (Some x) None m b l w w' p e q = absurd p
part_filled (Some x) (Some y) None b l w w' p e q = absurd q
part_filled (Some x) (Some y) (Some z) b l w w' p e q = (rw e at p) ∙ ap (λ (t : List ℕ). l ++ t) q

-- the same part and one byte, which a read brought and which doesn't wait
pub part_past : (o n m : Option (List ℕ)) (b l w w' : List ℕ) (byte : ℕ) → TakesPart o n b l w → w ≡ [] → Consumes n m (byte ∷ []) → w' ≡ [] → TakesPart o m b (l ++ byte ∷ []) w'
part_past o n m b l w w' byte p e q none = part_more o m b l (l ++ byte ∷ []) (byte ∷ []) w' (part_filled o n m b l w (byte ∷ []) p e q) refl none

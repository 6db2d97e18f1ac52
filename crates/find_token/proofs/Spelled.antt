-- A token is read exactly where it is spelled.
use Rattle.std.proofs.Common.{◌≡◌, ◌∙◌, inl, inr, ℕ, ◌+◌, nat_eq, cond, List, ◌∷◌, ◌++◌, length, Option, Some, None, refl, sym, ap, subst, eqb-true, arith}
use Rattle.std.proofs.lemmas.List.{append_cancel_left}
use Rattle.byteorder.specs.Endian.{big_bytes}
use Rattle.byteorder.specs.Numbers.{length-bytes_high_first}
use Rattle.field_codec.specs.Spelling.{IsBytes}
use Rattle.field_codec.specs.Reading.{◌>>=◌, number_at}
use Rattle.std.proofs.lemmas.Option.{same_Some}
use Rattle.blob_id.proofs.BoolLemmas.{cond_cases}
use Rattle.field_codec.proofs.Tools.{bind_some, bind_is}
use Rattle.field_codec.proofs.Fields.{number_takes, number_again}
use Rattle.find_token.specs.declared.token.FindToken.{FindToken}
use Rattle.find_token.specs.declared.token.FindToken.TheVariants.{Start, Journal}
use Rattle.find_token.specs.Tokens.{IsToken, BeginsWith, token_text, token_of, token_at}

abbrev answer : FindToken → ℕ → Option (FindToken × ℕ)
answer token size = Some (token, size)

abbrev start : Option (FindToken × ℕ)
start = answer Start 1

abbrev journal_of : ℕ × List ℕ → Option (FindToken × ℕ)
journal_of lsn = answer (Journal lsn.0) 9

token_is : (bytes : List ℕ) → token_at bytes ≡ (number_at 1 bytes >>= λ kind. token_of kind.0 kind.1)
unfolding token_at
token_is bytes = refl

journal_begins : (bytes rest : List ℕ) (token : FindToken) (size : ℕ) → IsBytes rest → bytes ≡ 1 ∷ rest → (number_at 8 rest >>= journal_of) ≡ Some (token, size) → BeginsWith bytes token size
journal_begins bytes rest token size fits front e =
    let a = bind_some (number_at 8 rest) journal_of (token, size) e in
    let t = number_takes 8 rest a.0.0 a.0.1 fits a.1 in
    let made : FindToken × ℕ = (Journal a.0.0, 9) in
    let begins : BeginsWith bytes (Journal a.0.0) 9 = record {
      fits = t.1;
      size_is = ap (λ (n : ℕ). 1 + n) (sym (length-bytes_high_first 8 a.0.0));
      rest = a.0.1;
      parts = front ∙ ap (λ (x : List ℕ). 1 ∷ x) t.0.parts;
    } in
    subst (λ (p : FindToken × ℕ). BeginsWith bytes p.0 p.1) (same_Some made (token, size) a.2) begins

start_begins : (bytes rest : List ℕ) (token : FindToken) (size : ℕ) → bytes ≡ 0 ∷ rest → start ≡ Some (token, size) → BeginsWith bytes token size
start_begins bytes rest token size front e =
    let made : FindToken × ℕ = (Start, 1) in
    let begins : BeginsWith bytes Start 1 = record { fits = tt; size_is = refl; rest = rest; parts = front } in
    subst (λ (p : FindToken × ℕ). BeginsWith bytes p.0 p.1) (same_Some made (token, size) e) begins

-- what is read stands in front
pub token_begins : (bytes : List ℕ) (token : FindToken) (size : ℕ) → IsBytes bytes → token_at bytes ≡ Some (token, size) → BeginsWith bytes token size
token_begins bytes token size fits e =
    let a = bind_some (number_at 1 bytes) (λ kind. token_of kind.0 kind.1) (token, size) (sym (token_is bytes) ∙ e) in
    let t = number_takes 1 bytes a.0.0 a.0.1 fits a.1 in
    let parts = t.0.parts in
    let kinds = cond_cases (nat_eq a.0.0 0) start (cond (nat_eq a.0.0 1) (number_at 8 a.0.1 >>= journal_of) None) (Some (token, size)) a.2 in
    elim kinds [
      | inl p ↦ start_begins bytes a.0.1 token size (parts ∙ ap (λ (n : ℕ). big_bytes 1 n ++ a.0.1) (eqb-true _ _ p.0)) p.1
      | inr p ↦ elim (cond_cases (nat_eq a.0.0 1) (number_at 8 a.0.1 >>= journal_of) None (Some (token, size)) p.1) [
        | inl q ↦ journal_begins bytes a.0.1 token size t.0.rest_fits (parts ∙ ap (λ (n : ℕ). big_bytes 1 n ++ a.0.1) (eqb-true _ _ q.0)) q.1
        | inr q ↦ absurd cc
      ]
    ]

-- what stands in front is read
pub token_again : (token : FindToken) (rest : List ℕ) → IsToken token → token_at (token_text token ++ rest) ≡ Some (token, length (token_text token))
token_again Start rest is =
    token_is (0 ∷ rest) ∙ bind_is (number_at 1 (big_bytes 1 0 ++ rest)) (λ kind. token_of kind.0 kind.1) (0, rest) (number_again 1 0 rest (omega arith))
token_again (Journal lsn) rest is =
    let behind = big_bytes 8 lsn ++ rest in
    token_is (1 ∷ behind)
    ∙ bind_is (number_at 1 (big_bytes 1 1 ++ behind)) (λ kind. token_of kind.0 kind.1) (1, behind) (number_again 1 1 behind (omega arith))
    ∙ bind_is (number_at 8 behind) journal_of (lsn, rest) (number_again 8 lsn rest is)
    ∙ ap (λ (n : ℕ). answer (Journal lsn) (1 + n)) (sym (length-bytes_high_first 8 lsn))

-- no spelling begins another one
pub tokens_apart : (a b : FindToken) (x y : List ℕ) → IsToken a → IsToken b → token_text a ++ x ≡ token_text b ++ y → (a ≡ b) × (x ≡ y)
tokens_apart a b x y fits_a fits_b e =
    let one : FindToken × ℕ = (a, length (token_text a)) in
    let other : FindToken × ℕ = (b, length (token_text b)) in
    let same : a ≡ b = ap (λ (p : FindToken × ℕ). p.0) (same_Some one other (sym (token_again a x fits_a) ∙ ap token_at e ∙ token_again b y fits_b)) in
    (same, append_cancel_left (token_text a) x y (e ∙ ap (λ (t : FindToken). token_text t ++ y) (sym same)))

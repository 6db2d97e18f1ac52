-- What an opening answers.
use Rattle.std.proofs.Common.{◌≡◌, inl, ℕ, Bool, true, false, Option, Some, Result, Ok, Err, sym, ◌∙◌, ap}
use Rattle.std.specs.Option.{unwrap_or}
use Rattle.std.specs.Result.{IfOk, IfErr, IsErrOf}
use Rattle.std.proofs.lemmas.Bool.{true≢false}
use Rattle.disk_core.specs.declared.mem_disk.MemDisk.{MemDisk}
use Rattle.disk_core.specs.declared.bays.BayFault.{BayFault}
use Rattle.disk_core.specs.declared.bays.BayFault.TheVariants.{Failed, OtherSize, Memory}
use Rattle.disk_core.specs.MemDisk.{content_of, size_of}
use Rattle.disk_core.specs.Homes.{AnswersSize}
use Rattle.disk_core.specs.Places.{IsOther}

abbrev failed_then : Result MemDisk BayFault → Bool
failed_then (Ok disk) = false
failed_then (Err Failed) = true
failed_then (Err (OtherSize n)) = false
failed_then (Err Memory) = false

abbrev answered_size : Result MemDisk BayFault → ℕ
answered_size (Ok disk) = 0
answered_size (Err Failed) = 0
answered_size (Err (OtherSize n)) = n
answered_size (Err Memory) = 0

abbrev is_ok_now : Result MemDisk BayFault → Bool
is_ok_now (Ok disk) = true
is_ok_now (Err fault) = false

pub any_ok : (r : Result MemDisk BayFault) (P : MemDisk → Type 0) → ((disk : MemDisk) → P disk) → IfOk r P
any_ok (Ok disk) P holds = holds disk
any_ok (Err fault) P holds = tt

module _ (Q : Type 0) where
  pub memory_is_no_failure : (r : Result MemDisk BayFault) → IfErr r (λ fault. (fault ≡ Memory) × Q) → IsErrOf r Failed → ⊥
  memory_is_no_failure (Ok disk) is failed = true≢false (ap is_ok_now failed)
  memory_is_no_failure (Err fault) is failed = true≢false (ap failed_then (sym failed ∙ ap (λ (f : BayFault). Err f) is.0))

  module _ (kept : Option MemDisk) (size : ℕ) where
    pub other_is_no_failure : (r : Result MemDisk BayFault) → IfErr r (λ fault. IsOther kept size fault × Q) → IsErrOf r Failed → ⊥
    other_is_no_failure (Ok disk) is failed = true≢false (ap is_ok_now failed)
    other_is_no_failure (Err fault) is failed = true≢false (ap failed_then (sym failed ∙ ap (λ (f : BayFault). Err f) is.0.answered))

    pub answers : (r : Result MemDisk BayFault) → IfOk r (λ disk. (size_of disk ≡ size) × (kept ≡ Some disk)) → IfErr r (λ fault. IsOther kept size fault × Q) → AnswersSize (Unit {0}) content_of size_of kept size r
    answers (Ok disk) ok err = record {
      only = λ n is. absurd (true≢false (ap is_ok_now is));
      always = λ n other.
          let same : other.disk ≡ disk = ap (λ (o : Option MemDisk). unwrap_or o disk) (sym other.at_home ∙ ok.1) in
          absurd (other.differs (sym other.bytes ∙ (ap (λ (d : MemDisk). size_of d) same ∙ ok.0)));
    }
    answers (Err fault) ok err =
        let it : IsOther kept size fault = err.0 in
        record {
          only = λ n is.
              let bytes : n ≡ size_of it.disk = ap answered_size (sym is ∙ ap (λ (f : BayFault). Err f) it.answered) in
              record { disk = it.disk; at_home = it.at_home; bytes = sym bytes; differs = λ e. it.differs (sym bytes ∙ e) };
          always = λ n other.
              let same : it.disk ≡ other.disk = ap (λ (o : Option MemDisk). unwrap_or o it.disk) (sym it.at_home ∙ other.at_home) in
              let bytes : size_of it.disk ≡ n = ap (λ (d : MemDisk). size_of d) same ∙ other.bytes in
              inl (ap (λ (f : BayFault). Err f) (it.answered ∙ ap (λ (k : ℕ). OtherSize k) bytes));
        }

use Rattle.std.proofs.Common.{◌≡◌, ℕ, ◌+◌, ◌*◌, ◌-◌, ◌<◌, ◌≤◌, ◌%◌, Some, sym, ap, subst, arith}
use Rattle.part_log.proofs.Places.{left_inside, left_is, place_inside}
use Rattle.part_log.proofs.reading_at.left_at.Goals as goal
use Rattle.part_log.proofs.reading_at.left_at.Goals.{then-place-lt-CELLS-via-then-place-lt-CELLS, then-place-lt-CELLS-via-else-place-lt-CELLS+then-place-from}

pub returns-then-place-lt-CELLS-clause-only : goal.returns-then-place-lt-CELLS-clause-only
returns-then-place-lt-CELLS-clause-only c = λ number offset small short is.
    let count = c.args.settings.now.segments in
    let segment = c.args.settings.now.segment in
    let behind : ℕ = c.args.place - 4096 in
    let inside = place_inside c.args.place number count segment offset small short is in
    elim c.then-place-lt-CELLS.branch [
      | then-place-lt-CELLS-via-then-place-lt-CELLS w ↦ absurd (omega (arith, inside.0, w.if-place-lt-CELLS.true))
      | then-place-lt-CELLS-via-else-place-lt-CELLS+then-place-from w ↦
          let past : count * segment ≤ behind = subst (λ (n : ℕ). n * segment ≤ behind) w.from.ensures (subst (λ (n : ℕ). w.from.result * n ≤ behind) c.from-segment.ensures w.if-place-from.true) in
          absurd (omega (arith, inside.1, past))
    ]

pub returns-clause-inside : goal.returns-clause-inside
returns-clause-inside c =
    let count = c.args.settings.now.segments in
    let segment = c.args.settings.now.segment in
    let behind : ℕ = c.args.place - 4096 in
    let below : behind < count * segment = subst (λ (n : ℕ). behind < n * segment) c.from.ensures (subst (λ (n : ℕ). behind < c.from.result * n) c.from-segment.ensures c.if-place-from.false) in
    subst (λ (n : ℕ). c.args.place + (segment - (c.args.place - 4096) % n) ≤ 4096 + count * segment) (sym c.from-segment.ensures) (left_inside c.args.place count segment c.requires c.if-place-lt-CELLS.false below)

pub returns-clause-only : goal.returns-clause-only
returns-clause-only c = λ number offset small short is.
    subst (λ (n : ℕ). Some (c.args.settings.now.segment - (c.args.place - 4096) % n) ≡ Some (c.args.settings.now.segment - offset)) (sym c.from-segment.ensures)
    (ap (λ (m : ℕ). Some (c.args.settings.now.segment - m)) (left_is c.args.place number c.args.settings.now.segment offset short is))

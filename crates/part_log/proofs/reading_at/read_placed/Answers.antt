use Rattle.std.proofs.Common.{◌≡◌, ℕ, ◌-◌, ◌<◌, List, length, sym, ◌∙◌, ap, subst, arith}
use Rattle.disk_core.specs.Content.{range}
use Rattle.msg_format.specs.Records.{Spells}
use Rattle.msg_format.proofs.Spelled.{text_long}
use Rattle.part_log.proofs.Wholes.{not_both, same_some}
use Rattle.part_log.proofs.reading_at.read_placed.Goals as goal

-- a text that stands there is what is read
stands : (place len : ℕ) (seen text : List ℕ) → length text ≡ len → range place (length text) seen ≡ text → text ≡ range place len seen
stands place len seen text long here = sym here ∙ ap (λ (n : ℕ). range place n seen) long

pub returns-in_default-clause-failed : goal.returns-in_default-clause-failed
returns-in_default-clause-failed g c = λ is t entry text long visible.
    let short : visible.offset < c.args.settings.now.segment = omega (arith, visible.fits, text_long text entry visible.spelled) in
    let some = c.left_at.ensures.only visible.number visible.offset visible.small short visible.at in
    absurd (not_both c.left_at.result (c.args.settings.now.segment - visible.offset) some c.in_default.is)

pub returns-then-len-left-clause-failed : goal.returns-then-len-left-clause-failed
returns-then-len-left-clause-failed g c = λ is t entry text long visible.
    let segment = c.args.settings.now.segment in
    let left : ℕ = c.in-Some.left in
    let short : visible.offset < segment = omega (arith, visible.fits, text_long text entry visible.spelled) in
    let left_is : left ≡ segment - visible.offset = same_some left (segment - visible.offset) (c.in-Some.ensures.only visible.number visible.offset visible.small short visible.at) in
    absurd (omega (arith, left_is, visible.fits, long, c.if-len-left.true))

pub returns-in-Some-2-clause-read : goal.returns-in-Some-2-clause-read
returns-in-Some-2-clause-read g c = λ t entry text long visible.
    let text_is = stands c.args.place c.args.len (g.D.Disk.content c.args.disk.now).seen text long visible.here in
    let found = c.in_ok-entry.ensures.only t entry (subst (λ (l : List ℕ). Spells l entry) text_is visible.spelled) in
    same_some c.in-Some-2.entry entry (sym c.in-Some-2.is ∙ found)

pub returns-in-None-clause-failed : goal.returns-in-None-clause-failed
returns-in-None-clause-failed g c = λ is t entry text long visible.
    let text_is = stands c.args.place c.args.len (g.D.Disk.content c.args.disk.now).seen text long visible.here in
    let found = c.in_ok-entry.ensures.only t entry (subst (λ (l : List ℕ). Spells l entry) text_is visible.spelled) in
    absurd (not_both c.in_ok-entry.field-0 entry found c.in-None.is)

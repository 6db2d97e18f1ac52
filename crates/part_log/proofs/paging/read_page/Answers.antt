use Rattle.std.proofs.Common.{◌≡◌, ℕ, ◌-◌, ◌≤◌, List, ◌++◌, length, take, drop, Err, IsErrOf, sym, ◌∙◌, ap, subst, arith, rules}
use Rattle.part_log.specs.declared.fault.OpenFault.TheVariants.{Damaged}
use Rattle.part_log.specs.declared.segment.SegmentInfo.{SegmentInfo}
use Rattle.part_log.specs.Log.{placed_in}
use Rattle.part_log.specs.Pages.{StandIn, StandsAt, filled}
use Rattle.part_log.specs.Records.{Written, next_after, placed_from}
use Rattle.part_log.specs.Scan.{found_of}
use Rattle.part_log.proofs.Pages.{filled_then, rest_whole, stand_lower}
use Rattle.part_log.proofs.paging.read_page.Goals as goal

pub returns-in_err-read_parts-clause-failed : goal.returns-in_err-read_parts-clause-failed
returns-in_err-read_parts-clause-failed g c = λ is t written parts start.
    let seen = (g.D.Disk.content c.args.disk.now).seen in
    let from = c.args.start in
    let segment = c.args.settings.now.segment in
    let all = c.args.segments.now in
    let infos : List SegmentInfo = take (length all - from.next) (drop from.next all) in
    let infos_are : infos ≡ drop from.next all = rest_whole from.next all in
    let stands = subst (λ (n : ℕ). StandsAt from.place from.left n seen written) (sym c.new-scan.ensures.next) start.stands in
    let passed = c.in_ok-read_part.ensures.passed t written stands in
    let low : c.read_part.new.scan.next ≤ next_after 0 written = omega (arith, passed, ap (λ (n : ℕ). next_after n written) c.new-scan.ensures.next) in
    let stand = subst (λ (l : List ℕ). StandIn segment infos c.read_part.new.scan.next l parts) (sym (c.read_part.ensures.seen t)) (stand_lower segment infos (next_after 0 written) c.read_part.new.scan.next seen parts low (subst (λ (l : List SegmentInfo). StandIn segment l (next_after 0 written) seen parts) (sym infos_are) start.stand)) in
    let damaged : (at : ℕ) → IsErrOf {T = Unit {0}} (Err c.in_err-read_parts.field-0.0) (Damaged at) → ⊥ = λ at bad. c.in_err-read_parts.ensures.damaged at bad t parts stand in
    let later = c.read_part.ensures.later in
    search rules

pub returns-clause-read : goal.returns-clause-read
returns-clause-read g c = λ t written parts start.
    let seen = (g.D.Disk.content c.args.disk.now).seen in
    let from = c.args.start in
    let segment = c.args.settings.now.segment in
    let all = c.args.segments.now in
    let infos : List SegmentInfo = take (length all - from.next) (drop from.next all) in
    let infos_are : infos ≡ drop from.next all = rest_whole from.next all in
    let stands = subst (λ (n : ℕ). StandsAt from.place from.left n seen written) (sym c.new-scan.ensures.next) start.stands in
    let passed = c.in_ok-read_part.ensures.passed t written stands in
    let low : c.read_part.new.scan.next ≤ next_after 0 written = omega (arith, passed, ap (λ (n : ℕ). next_after n written) c.new-scan.ensures.next) in
    let stand = subst (λ (l : List ℕ). StandIn segment infos c.read_part.new.scan.next l parts) (sym (c.read_part.ensures.seen t)) (stand_lower segment infos (next_after 0 written) c.read_part.new.scan.next seen parts low (subst (λ (l : List SegmentInfo). StandIn segment l (next_after 0 written) seen parts) (sym infos_are) start.stand)) in
    filled_then c.args.page c.read_part.new.page c.read_parts.new.page.found.items (placed_from from.place written) (placed_in segment infos parts) c.read_part.ensures.least c.read_part.ensures.most
    (c.in_ok-read_part.ensures.read t written stands) (c.in_ok-read_parts.ensures.read t parts stand)
    ∙ ap (λ (l : List SegmentInfo). filled c.args.page (found_of (placed_from from.place written ++ placed_in segment l parts))) infos_are

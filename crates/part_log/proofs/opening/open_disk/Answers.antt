use Rattle.std.proofs.Common.{ℕ, List, [], refl, sym, ◌∙◌, subst}
use Rattle.part_log.specs.Images.{IsDamaged, NamesOther, OpensLog}
use Rattle.part_log.specs.Opened.{IsOpened}
use Rattle.part_log.proofs.Room.{if_ok_map}
use Rattle.part_log.proofs.Scanning.{same_twice, only_same}
use Rattle.part_log.proofs.Reopening.{opens_none, opens_same, opens_after}
use Rattle.part_log.proofs.opening.open_disk.Goals as goal

pub returns-in-Some-clause-during : goal.returns-in-Some-clause-during
returns-in-Some-clause-during g c = λ t.
    let old = g.D.Disk.content c.args.disk.now in
    let synced = g.D.Disk.content c.sync.new.self in
    let loaded = g.D.Disk.content c.load.new.disk in
    let known = g.D.Disk.content c.load_tokens.new.disk in
    let new = g.D.Disk.content c.read_named.new.disk in
    opens_same c.args.settings old new (same_twice old known new (same_twice old loaded known (same_twice old synced loaded (c.sync.ensures.told t).during (c.load.ensures.during t)) (c.load_tokens.ensures.during t)) (c.read_named.ensures.during t))

pub returns-in_err-sync-clause-opens : goal.returns-in_err-sync-clause-opens
returns-in_err-sync-clause-opens g c = λ t.
    let seen = (g.D.Disk.content c.args.disk.now).seen in
    subst (λ (l : List ℕ). OpensLog c.args.settings seen l) (sym (c.sync.ensures.told t).seen) (opens_none c.args.settings seen)

pub returns-in_err-slots-clause-opens : goal.returns-in_err-slots-clause-opens
returns-in_err-slots-clause-opens g c = λ t.
    let seen = (g.D.Disk.content c.args.disk.now).seen in
    let whole = c.load.ensures.seen t ∙ (c.sync.ensures.told t).seen in
    subst (λ (l : List ℕ). OpensLog c.args.settings seen l) (sym whole) (opens_none c.args.settings seen)

pub returns-in_err-tokens-clause-opens : goal.returns-in_err-tokens-clause-opens
returns-in_err-tokens-clause-opens g c = λ t.
    let seen = (g.D.Disk.content c.args.disk.now).seen in
    let whole = c.load_tokens.ensures.seen t ∙ c.load.ensures.seen t ∙ (c.sync.ensures.told t).seen in
    subst (λ (l : List ℕ). OpensLog c.args.settings seen l) (sym whole) (opens_none c.args.settings seen)

pub returns-in-Some-clause-opens : goal.returns-in-Some-clause-opens
returns-in-Some-clause-opens g c = λ t.
    let seen = (g.D.Disk.content c.args.disk.now).seen in
    let whole = c.read_named.ensures.seen t ∙ c.load_tokens.ensures.seen t ∙ c.load.ensures.seen t ∙ (c.sync.ensures.told t).seen in
    subst (λ (l : List ℕ). OpensLog c.args.settings seen l) (sym whole) (opens_none c.args.settings seen)

pub returns-in-None-clause-opens : goal.returns-in-None-clause-opens
returns-in-None-clause-opens g c = λ t.
    subst (λ (l : List ℕ). OpensLog c.args.settings l (g.D.Disk.content c.format.new.disk).seen) (c.load_tokens.ensures.seen t ∙ c.load.ensures.seen t ∙ (c.sync.ensures.told t).seen) (c.format.ensures.opens t)

pub returns-in-Some-clause-damaged : goal.returns-in-Some-clause-damaged
returns-in-Some-clause-damaged g c = λ at is t.
    subst (λ (l : List ℕ). IsDamaged c.args.settings l at) (c.load_tokens.ensures.seen t ∙ c.load.ensures.seen t ∙ (c.sync.ensures.told t).seen) (c.read_named.ensures.damaged at is t)

pub returns-in-Some-clause-settings : goal.returns-in-Some-clause-settings
returns-in-Some-clause-settings g c = λ other is t.
    subst (λ (l : List ℕ). NamesOther c.args.settings other l) (c.load_tokens.ensures.seen t ∙ c.load.ensures.seen t ∙ (c.sync.ensures.told t).seen) (c.read_named.ensures.settings other is t)

pub returns-in-None-clause-during : goal.returns-in-None-clause-during
returns-in-None-clause-during g c = λ t.
    let old = g.D.Disk.content c.args.disk.now in
    let synced = g.D.Disk.content c.sync.new.self in
    let loaded = g.D.Disk.content c.load.new.disk in
    let known = g.D.Disk.content c.load_tokens.new.disk in
    let new = g.D.Disk.content c.format.new.disk in
    opens_after c.args.settings old known new (same_twice old loaded known (same_twice old synced loaded (c.sync.ensures.told t).during (c.load.ensures.during t)) (c.load_tokens.ensures.during t)) (c.format.ensures.during t)

pub returns-in-None-clause-opened : goal.returns-in-None-clause-opened
returns-in-None-clause-opened g c =
    if_ok_map c.format.result _ _ c.format.ensures.opened (λ opened given t. (
      [],
      subst (λ (l : List ℕ). IsOpened c.args.settings l opened (g.D.Disk.content c.format.new.disk) []) (c.load_tokens.ensures.seen t ∙ c.load.ensures.seen t ∙ (c.sync.ensures.told t).seen) (given t),
      refl,
    ))

pub returns-in-None-clause-settings : goal.returns-in-None-clause-settings
returns-in-None-clause-settings g c = λ other is t. absurd (c.format.ensures.settings other is)

pub returns-in_err-tokens-clause-during : goal.returns-in_err-tokens-clause-during
returns-in_err-tokens-clause-during g c = λ t.
    let old = g.D.Disk.content c.args.disk.now in
    let synced = g.D.Disk.content c.sync.new.self in
    let loaded = g.D.Disk.content c.load.new.disk in
    let known = g.D.Disk.content c.load_tokens.new.disk in
    opens_same c.args.settings old known (same_twice old loaded known (same_twice old synced loaded (c.sync.ensures.told t).during (c.load.ensures.during t)) (c.load_tokens.ensures.during t))

pub read_named-requires-clause-only : goal.read_named-requires-clause-only
read_named-requires-clause-only g c = λ t.
    c.load_tokens.ensures.only t (only_same (g.D.Disk.content c.sync.new.self) (g.D.Disk.content c.load.new.disk) (c.load.ensures.during t) (c.load.ensures.seen t) (c.in_ok-sync.ensures.told t).only)

pub format-requires-clause-only : goal.format-requires-clause-only
format-requires-clause-only g c = λ t.
    c.load_tokens.ensures.only t (only_same (g.D.Disk.content c.sync.new.self) (g.D.Disk.content c.load.new.disk) (c.load.ensures.during t) (c.load.ensures.seen t) (c.in_ok-sync.ensures.told t).only)

pub returns-in-None-clause-damaged : goal.returns-in-None-clause-damaged
returns-in-None-clause-damaged g c = λ at is t. absurd (c.format.ensures.damaged at is)

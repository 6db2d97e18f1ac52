use Rattle.std.proofs.Common.{rules, option_map, sym, ◌∙◌, ap}
use Rattle.std.proofs.lemmas.Iterator.{YieldsList-from_slice}
use Rattle.std.proofs.lemmas.Iterator.Search.{find_from_yields_List}
use Rattle.disk_core.specs.FuseBays.{is_placed}
use Rattle.disk_core.proofs.fuse_bays.find_fuse.Goals as goal

pub returns-in-Some : goal.returns-in-Some
returns-in-Some c =
    ap (option_map (λ y. y.now)) (sym c.in-Some.is)
    ∙ find_from_yields_List (is_placed c.args.node c.args.partition) _ _ _ c.find.ensures.ran (YieldsList-from_slice c.args.fuses.now cc) (λ x b q k. search rules)

pub returns-in-None : goal.returns-in-None
returns-in-None c =
    ap (option_map (λ y. y.now)) (sym c.in-None.is)
    ∙ find_from_yields_List (is_placed c.args.node c.args.partition) _ _ _ c.find.ensures.ran (YieldsList-from_slice c.args.fuses.now cc) (λ x b q k. search rules)

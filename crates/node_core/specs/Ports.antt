-- Ports by partition.
use Rattle.std.specs.Prelude.{◌≡◌, ◌≢◌, ◌≤◌, ◌<◌, ◌^◌, ℕ, suc, ◌==◌, nat_eq, Bool, true, cond, List, [], ◌∷◌, Option, Some, None}
use Rattle.std.specs.List.{All, IsDistinct}
use Rattle.std.specs.Map.{keys_of, values_of, lookup, set_value}
use Rattle.std.specs.Option.{option_map}
use Rattle.outside.specs.Causes.{Rose}
use Rattle.cell_model.specs.declared.ask.Ask.{Ask}
use Rattle.cell_model.specs.declared.ask.Reply.{Reply}
use Rattle.cell_model.specs.Told.{Told}
use Rattle.cell_model.specs.Asks.{IsStep, CanAnswer, Refuses, AnswersInRange}

-- the port of a partition
abbrev pub port_in : {P : Type 0} → List (ℕ × P) → ℕ → Option P
port_in ports partition = lookup (λ p. p == partition) ports

-- the ports, with this one in the place of the partition's
abbrev pub with_port : {P : Type 0} → List (ℕ × P) → ℕ → P → List (ℕ × P)
with_port ports partition port = set_value (λ p. p == partition) ports port

-- the place of a partition among these
abbrev pub place_in : List ℕ → ℕ → Option ℕ
place_in [] partition = None
place_in (p ∷ partitions) partition = cond (p == partition) (Some 0) (option_map suc (place_in partitions partition))

-- Ports that a node can have: one for each of some partitions that frames can name, and each may be asked.
pub record ArePorts {P : Type 0} (ready : P → Type 0) (ports : List (ℕ × P)) : Type 0 where
  pub distinct : IsDistinct nat_eq (keys_of ports)
  pub named : All (λ p. p < 2 ^ 16) (keys_of ports)
  pub each : All ready (values_of ports)

-- One ask of a port and its reply, by all that ports of its type promise: whether they tell, whether they may refuse, what they tell, what of
-- them is fixed, their counts of faults, and their own relation.
pub record IsAsked {P : Type 0} (tells : Type 0) (refuses : Bool) (told : P → Told) (fixed : P → List ℕ) (faults : P → ℕ) (asks : P → Ask → Reply → P → Type 0) (old : P) (ask : Ask) (reply : Reply) (new : P) : Type 0 where
  pub kind : CanAnswer ask reply
  pub step : tells → IsStep (told old) ask reply (told new)
  pub range : AnswersInRange reply
  pub refusal : Refuses reply → refuses ≡ true
  pub fault : reply ≡ Reply.Fault → Rose (faults old) (faults new)
  pub later : faults old ≤ faults new
  pub calm : reply ≢ Reply.Fault → faults new ≡ faults old
  pub kept : fixed new ≡ fixed old
  pub own : asks old ask reply new

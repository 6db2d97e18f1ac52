-- Which moves a schedule picks.
use Rattle.std.specs.Prelude.{ℕ, ◌+◌, ◌*◌, ◌/◌, ◌%◌, ◌^◌, nat_lt, Bool, cond, List, length, slice_index_or}
use Rattle.world_model.specs.declared.moves.Move.{Move}
use Rattle.world_model.specs.declared.offers.GivenMove.{GivenMove}
use Rattle.world_model.specs.declared.moves.Move.TheVariants.{Run, RunAgain, Drop, Hand, HandAgain, DropReply, Tick, Cut, Pull}

-- the plain schedule: the oldest reply is handed, else the oldest request is run, else the clock goes on
abbrev pub plain_move : (requests replies : ℕ) → Move
plain_move requests replies = cond (nat_lt 0 replies) (Hand 0) (cond (nat_lt 0 requests) (Run 0) (Tick 1000))

-- the listed moves, and then those of the plain schedule; so many of the list were given
abbrev pub listed_move : (list : List Move) → (given requests replies : ℕ) → Move
listed_move list given requests replies = cond (nat_lt given (length list)) (slice_index_or list given (Tick 0)) (plain_move requests replies)

-- the generator's next state, and the number that a state gives
abbrev pub next_state : ℕ → ℕ
next_state x = (x * 6364136223846793005 + 1442695040888963407) % 2 ^ 64

abbrev pub number_in : ℕ → ℕ
number_in x = x / 2 ^ 33

-- the move of two numbers: the first, below 100, says which, and the second where
abbrev pub move_of : (a v nodes partitions : ℕ) → Move
move_of a v nodes partitions =
    cond (nat_lt a 35) (Hand (v % 2 ^ 16))
    (cond (nat_lt a 75) (Run (v % 2 ^ 16))
    (cond (nat_lt a 80) (RunAgain (v % 2 ^ 16))
    (cond (nat_lt a 84) (HandAgain (v % 2 ^ 16))
    (cond (nat_lt a 87) (Drop (v % 2 ^ 16))
    (cond (nat_lt a 90) (DropReply (v % 2 ^ 16))
    (cond (nat_lt a 98) (Tick (v % 50))
    (cond (nat_lt a 99) (Cut (1 + v % nodes))
    (Pull (1 + v % nodes) (1 + v / 16 % nodes) (v / 256 % partitions)))))))))

-- the move that the seeded schedule picks, from the state before
abbrev pub seeded_move : (x nodes partitions : ℕ) → Move
seeded_move x nodes partitions = move_of (number_in (next_state x) % 100) (number_in (next_state (next_state x))) nodes partitions

-- a seeded schedule: plain with seed 0, or in a state; the moves given, each with what it was picked from; how many more it has room for; and the seeds that it was begun with
pub record Schedule : Type 0 where
  pub plain : Bool
  pub state : ℕ
  pub given : List GivenMove
  pub room : ℕ
  pub seeds : List ℕ

abbrev pub picked : Schedule → (nodes partitions requests replies : ℕ) → Move
picked s nodes partitions requests replies = cond s.plain (plain_move requests replies) (seeded_move s.state nodes partitions)

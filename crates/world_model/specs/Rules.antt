-- What a session's router goes by beside what it is asked.
use Rattle.std.specs.Prelude.{ℕ, ◌+◌, ◌-◌, ◌*◌, ◌/◌, ◌%◌, min}
use Rattle.world_model.specs.declared.shape.Shape.{Shape}

pub record Rules : Type 0 where
  pub shape : Shape
  pub window : ℕ  -- how many operations may be live
  pub limit : ℕ  -- the most bytes of a put
  pub attempts : ℕ  -- how often a put tries each of its parts
  pub choose : ℕ → ℕ → ℕ → ℕ  -- the partition of an attempt, by the operation, the number of the part and the attempt

-- a put has at most so many bytes: its metadata has to be one chunk
abbrev pub limit_of : Shape → ℕ
limit_of shape = min 67108864 (shape.chunk * ((shape.chunk - 17) / 20))

-- the partitions in turn
abbrev pub in_turn : Shape → ℕ → ℕ → ℕ → ℕ
in_turn shape operation part attempt = (operation - 1 + part + attempt) % shape.partitions

-- sixteen live operations, three attempts, and the partitions in turn
abbrev pub usual_rules : Shape → Rules
usual_rules shape = record { shape = shape; window = 16; limit = limit_of shape; attempts = 3; choose = in_turn shape }

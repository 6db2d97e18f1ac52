-- What a call does, as acts, and what acts from the beginning say of the calls told.
use Rattle.std.proofs.Common.{◌≡◌, ℕ, suc, ◌==◌, Bool, true, false, ◌&&◌, ◌||◌, not, cond, List, [], ◌∷◌, ◌++◌, length, Option, Some, None, Result, Ok, Err, refl, sym, ap, ◌∙◌, subst, append-nil, append_assoc}
use Rattle.std.proofs.lemmas.List.{length-map}
use Rattle.std.specs.Prelude.{IsSome, OnErr}
use Rattle.std.specs.Result.{is_ok}
use Rattle.blob_id.specs.declared.memory.Memory.{Memory}
use Rattle.mem_fabric.specs.Network.{Network, nothing, is_stopped, after_open, after_steps, after_send, after_sent, after_order, MayRestart, MayBeTold, after_given, IsOldest, Does, Obeys}
use Rattle.mem_fabric.specs.Offers.{nodes_in, partitions_in, picked_in}
use Rattle.mem_fabric.specs.Past.{calls_of, order_steps}
use Rattle.mem_fabric.specs.Played.{Act, Opens, Sends, Orders, Gives, Moves, Fails, acted, all_acted, MayAct, AllMay, moves_of, order_in, orders_of, Plays, AtMostOne, IsPlayed}
use Rattle.mem_fabric.specs.PlayedLaws.{plays_on}
use Rattle.mem_fabric.specs.Sound.{State, AllShow, IsSound, asked_number, fresh_state, network_of, replied_number, told_world}
use Rattle.world_model.specs.declared.moves.Move.{Move}
use Rattle.world_model.specs.declared.offers.GivenMove.{GivenMove}
use Rattle.world_model.specs.declared.order.Order.{Order}
use Rattle.world_model.specs.declared.order.PullCause.{PullCause}
use Rattle.world_model.specs.declared.order.Told.{Told}
use Rattle.world_model.specs.declared.shape.Shape.{Shape}
use Rattle.world_model.specs.declared.step.Called.{Called}
use Rattle.world_model.specs.declared.step.Did.{Did}
use Rattle.world_model.specs.declared.step.Event.{Event}
use Rattle.world_model.specs.declared.step.Step.{Step}
use Rattle.world_model.specs.Fabric.{HasNode, Awaits, TakesOrder, TellsOrder}
use Rattle.world_model.specs.Offers.{given_move}
use Rattle.world_model.specs.Orders.{is_stopped as is_stopped_by, ComesTo}
use Rattle.world_model.specs.Record.{Marked, Drawn, Aimed, Took, Given, Withheld, Decided, Record}
use Rattle.world_model.specs.Told.{orders_told, told, AllNetwork}
use Rattle.world_model.specs.World.{Made, nothing_held, world}

-- nothing was done
pub plays_none : (given given' : List GivenMove) (s s' : State) (whole : Bool) → given' ≡ given → s' ≡ s → Plays given (network_of s) given' (network_of s') whole
plays_none given given' s s' whole none same = ([], (λ w. tt), record { moves = none ∙ sym (append-nil given); may = tt; network = ap network_of same })

pub plays_open : (given : List GivenMove) (s s' : State) (shape : Shape) → s ≡ fresh_state → network_of s' ≡ after_open (network_of s) shape → Plays given (network_of s) given (network_of s') true
plays_open given s s' shape fresh e = (Opens shape ∷ [], (λ w. tt), record { moves = sym (append-nil given); may = (tt, ap network_of fresh); network = e })

pub has_node : (opened : Bool) (shape : Option Shape) (node : ℕ) → HasNode (cond opened shape None) node → HasNode shape node
has_node true shape node h = h
has_node false shape node h = absurd h

pub plays_send : (given : List GivenMove) (n n' : Network) (node : ℕ) (frame : List ℕ) → HasNode n.shape node → n' ≡ after_send n node frame → Plays given n given n' true
plays_send given n n' node frame has e = (Sends node frame ∷ [], (λ w. tt), record { moves = sym (append-nil given); may = (tt, has); network = e })

pub has_shape : (opened : Bool) (shape : Option Shape) → IsSome (cond opened shape None) → IsSome shape
has_shape true shape h = h
has_shape false shape h = absurd cc

pub has_order : (opened : Bool) (shape : Option Shape) (order : Order) → TakesOrder (cond opened shape None) order → TakesOrder shape order
has_order true shape order h = h
has_order false shape (Order.Stop node) h = absurd h
has_order false shape (Order.Restart node) h = absurd h
has_order false shape (Order.Pull a b p) h = absurd h
has_order false shape (Order.Compact a p) h = absurd h
has_order false shape (Order.Level p a b) h = absurd h

pub plays_order : (given : List GivenMove) (n n' : Network) (order : Order) (answer : Told) → TakesOrder n.shape order → Obeys n order answer n' → Plays given n given n' true
plays_order given n n' order answer takes obeys =
    (Orders order answer ∷ [], (λ w. tt), record { moves = sym (append-nil given); may = (tt, (takes, obeys.may)); network = obeys.network })

-- ---- what an order tells

-- whether a node is stopped in the world is a matter of the steps that led there
stopped_in : (items : Record) (node : ℕ) → (world nothing_held items).stopped node ≡ is_stopped_by node items
stopped_in [] node = refl
stopped_in (Took (Step.Stop other) ∷ before) node = ap (λ b. (node == other) || b) (stopped_in before node)
stopped_in (Took (Step.Restart other done) ∷ before) node = ap (λ b. not (node == other) && b) (stopped_in before node)
stopped_in (Took (Step.Send from to frame) ∷ before) node = stopped_in before node
stopped_in (Took (Step.Refused to frame) ∷ before) node = stopped_in before node
stopped_in (Took (Step.Exec send reply) ∷ before) node = stopped_in before node
stopped_in (Took (Step.Torn send) ∷ before) node = stopped_in before node
stopped_in (Took (Step.Hand reply) ∷ before) node = stopped_in before node
stopped_in (Took (Step.Now ms) ∷ before) node = stopped_in before node
stopped_in (Took (Step.Cut other) ∷ before) node = stopped_in before node
stopped_in (Took (Step.Merge n p r place torn) ∷ before) node = stopped_in before node
stopped_in (Took (Step.Compact n p r) ∷ before) node = stopped_in before node
stopped_in (Marked mark ∷ before) node = stopped_in before node
stopped_in (Drawn operation part attempt id blob ∷ before) node = stopped_in before node
stopped_in (Aimed correlation part attempt ∷ before) node = stopped_in before node
stopped_in (Given event ∷ before) node = stopped_in before node
stopped_in (Withheld other frame ∷ before) node = stopped_in before node
stopped_in (Decided operation outcome ∷ before) node = stopped_in before node

-- by the steps of an order it came to its answer
comes_to : (n : Network) (order : Order) (answer : Told) → MayBeTold n order answer → ComesTo order answer (order_steps order answer) (told n.calls)
comes_to n (Order.Stop node) answer may = subst (λ a. ComesTo (Order.Stop node) a (order_steps (Order.Stop node) a) (told n.calls)) (sym may) (go (is_stopped n node) (sym (stopped_in (told n.calls) node)))
  where
    go : (b : Bool) → is_stopped_by node (told n.calls) ≡ b → ComesTo (Order.Stop node) (cond b Told.Already Told.Done) (order_steps (Order.Stop node) (cond b Told.Already Told.Done)) (told n.calls)
    go true e = (refl, e)
    go false e = (refl, e)
comes_to n (Order.Restart node) answer may = go (is_stopped n node) (sym (stopped_in (told n.calls) node)) answer may
  where
    go : (b : Bool) → is_stopped_by node (told n.calls) ≡ b → (told_so : Told) → MayRestart b node told_so → ComesTo (Order.Restart node) told_so (order_steps (Order.Restart node) told_so) (told n.calls)
    go false e told_so may = subst (λ a. ComesTo (Order.Restart node) a (order_steps (Order.Restart node) a) (told n.calls)) (sym may) (refl, e)
    go true e Told.Done may = (([], refl), e)
    go true e (Told.Refused refusal) may = (refl, may, e)
    go true e (Told.Stuck PullCause.Fault) may = (refl, e)
    go true e (Told.Stuck PullCause.Memory) may = (refl, e)
    go true e _ may = absurd may
comes_to n (Order.Pull a b p) answer may = absurd may
comes_to n (Order.Compact a p) answer may = absurd may
comes_to n (Order.Level p a b) answer may = absurd may

-- an order tells its steps, as one call
pub calls_on : (n : Network) (order : Order) (answer : Told) → (after_order n order answer).calls ≡ record { did = Did.Administered order answer; steps = order_steps order answer } ∷ n.calls
calls_on n (Order.Stop node) Told.Done = refl
calls_on n (Order.Restart node) Told.Done = refl
calls_on n _ _ = refl

network_steps : (order : Order) (answer : Told) → AllNetwork (order_steps order answer)
network_steps (Order.Stop node) Told.Done = (refl, tt)
network_steps (Order.Restart node) Told.Done = (refl, tt)
network_steps _ _ = tt

pub tells_order : (s s' : State) (order : Order) (answer : Told) → Obeys (network_of s) order answer (network_of s') → TellsOrder (Ok answer) (Some (calls_of s.past)) (Some (calls_of s'.past)) order
tells_order s s' order answer obeys =
    let n : Network = network_of s in
    let calls : calls_of s'.past ≡ record { did = Did.Administered order answer; steps = order_steps order answer } ∷ calls_of s.past = ap (λ (m : Network). m.calls) obeys.network ∙ calls_on n order answer in
    (record { did = Did.Administered order answer; steps = order_steps order answer }, record { did = refl; network = network_steps order answer; comes = comes_to n order answer obeys.may }, ap (λ l. Some l) calls)

-- ---- events that waited, and moves

pub plays_given : (given : List GivenMove) (n n' : Network) (event : Event) → IsOldest n.queue event → n' ≡ after_given n event → Plays given n given n' true
plays_given given n n' event oldest e = (Gives event ∷ [], (λ w. tt), record { moves = sym (append-nil given); may = (tt, oldest); network = e })

-- what a schedule is asked is what is there
picked_there : (s : State) (shape : Shape) (requests replies : ℕ) (chosen : Move) → s.shape ≡ Some shape → requests ≡ length s.requests → replies ≡ length s.replies
    → given_move shape.nodes shape.partitions requests replies chosen ≡ picked_in (network_of s) chosen
picked_there s shape requests replies chosen shaped sent made =
    let here : Option Shape → ℕ → ℕ → GivenMove = λ found a b. given_move (nodes_in found) (partitions_in found) a b chosen in
    ap (λ found. here found requests replies) (sym shaped)
    ∙ ap (λ k. here s.shape k replies) (sent ∙ sym (length-map s.requests asked_number))
    ∙ ap (λ k. here s.shape (length (network_of s).requests) k) (made ∙ sym (length-map s.replies replied_number))

pub given_there : (given between given' : List GivenMove) (s : State) (shape : Shape) (requests replies : ℕ) (chosen : Move) → given' ≡ between ++ given_move shape.nodes shape.partitions requests replies chosen ∷ [] → between ≡ given
    → s.shape ≡ Some shape → requests ≡ length s.requests → replies ≡ length s.replies → given' ≡ given ++ picked_in (network_of s) chosen ∷ []
given_there given between given' s shape requests replies chosen gave stays shaped sent made =
    gave ∙ ap (λ l. l ++ given_move shape.nodes shape.partitions requests replies chosen ∷ []) stays ∙ ap (λ m. given ++ m ∷ []) (picked_there s shape requests replies chosen shaped sent made)

pub plays_next : (given given' : List GivenMove) (n n' : Network) (chosen : Move) (result : Result Event Memory) → IsSome n.shape → n.queue ≡ [] → Does n chosen n' result → given' ≡ given ++ picked_in n chosen ∷ [] → Plays given n given' n' (is_ok result)
plays_next given given' n n' chosen (Ok event) some calm m e = (Moves chosen m.reply m.opened ∷ [], (λ w. tt), record { moves = e; may = (tt, (some, calm, m.may)); network = m.network })
plays_next given given' n n' chosen (Err memory) some calm m e = (Fails (Some chosen) ∷ [], (λ w. absurd cc), record { moves = e; may = (tt, tt); network = m })

pub most_next : (given given' : List GivenMove) (n : Network) (chosen : Move) (result : Result Event Memory) → given' ≡ given ++ picked_in n chosen ∷ [] → OnErr result (AtMostOne given given')
most_next given given' n chosen (Ok event) e = tt
most_next given given' n chosen (Err memory) e = (Some (picked_in n chosen), e)

pub most_none : (given given' : List GivenMove) → given' ≡ given → AtMostOne given given'
most_none given given' e = (None, e ∙ sym (append-nil given))

-- what waits in the world is queued
as_many : (waiting : List Made) (queue : List Event) → AllShow waiting queue → length queue ≡ length waiting
as_many [] [] shown = refl
as_many [] (event ∷ queue) shown = absurd shown
as_many (made ∷ rest) [] shown = absurd shown
as_many (made ∷ rest) (event ∷ queue) shown = ap suc (as_many rest queue shown.1)

pub all_wait : (s : State) → IsSound s → Awaits (Some (calls_of s.past)) (length s.queue)
all_wait s sound = as_many (told_world s.past).waiting s.queue sound.state.waits

-- ---- from the beginning

-- the shape stays
keeps_shape : (n : Network) (act : Act) (shape : Shape) → MayAct n act → n.shape ≡ Some shape → (acted n act).shape ≡ Some shape
keeps_shape n (Opens other) shape may e = absurd (let none : n.shape ≡ None = ap (λ (m : Network). m.shape) may in cc)
keeps_shape n (Sends node frame) shape may e = sent_shape (is_stopped n node)
  where
    sent_shape : (b : Bool) → (cond b (after_steps n (Did.Requested node frame) (Step.Refused node frame ∷ [])) (after_sent n node frame)).shape ≡ Some shape
    sent_shape true = e
    sent_shape false = e
keeps_shape n (Orders order answer) shape may e = ordered_shape order answer
  where
    ordered_shape : (order : Order) (answer : Told) → (after_order n order answer).shape ≡ Some shape
    ordered_shape (Order.Stop node) Told.Done = e
    ordered_shape (Order.Restart node) Told.Done = e
    ordered_shape _ _ = e
keeps_shape n (Gives event) shape may e = e
keeps_shape n (Moves chosen reply opened) shape may e = e
keeps_shape n (Fails chosen) shape may e = e

keeps_shape_all : (n : Network) (acts : List Act) (shape : Shape) → AllMay n acts → n.shape ≡ Some shape → (all_acted n acts).shape ≡ Some shape
keeps_shape_all n [] shape may e = e
keeps_shape_all n (act ∷ before) shape may e = keeps_shape (all_acted n before) act shape may.1 (keeps_shape_all n before shape may.0 e)

-- the orders among the acts are those that their calls tell
ordered_by : (n : Network) (act : Act) → orders_told (acted n act).calls ≡ order_in act ++ orders_told n.calls
ordered_by n (Opens shape) = refl
ordered_by n (Sends node frame) = sent_by (is_stopped n node)
  where
    sent_by : (b : Bool) → orders_told (cond b (after_steps n (Did.Requested node frame) (Step.Refused node frame ∷ [])) (after_sent n node frame)).calls ≡ orders_told n.calls
    sent_by true = refl
    sent_by false = refl
ordered_by n (Orders order answer) = ap orders_told (calls_on n order answer)
ordered_by n (Gives event) = refl
ordered_by n (Moves chosen reply opened) = refl
ordered_by n (Fails chosen) = refl

acts_ordered : (n : Network) (acts : List Act) → orders_told (all_acted n acts).calls ≡ orders_of acts ++ orders_told n.calls
acts_ordered n [] = refl
acts_ordered n (act ∷ before) =
    ordered_by (all_acted n before) act ∙ ap (λ l. order_in act ++ l) (acts_ordered n before) ∙ sym (append_assoc (order_in act) (orders_of before) (orders_told n.calls))

opened_shape : (opened : Bool) (shape : Option Shape) (found : Shape) → cond opened shape None ≡ Some found → shape ≡ Some found
opened_shape true shape found e = e
opened_shape false shape found e = absurd cc

-- what was opened for a shape and went on was played for it, with the moves that were given
pub played : (a b c : List GivenMove) (s t u : State) (opened : Bool) (shape : Shape) (calls : List Called) → s ≡ fresh_state
    → Plays a (network_of s) b (network_of t) true → cond opened t.shape None ≡ Some shape → Plays b (network_of t) c (network_of u) true → Some (calls_of u.past) ≡ Some calls → (T K : Type 0) → T → K
    → (moves : List GivenMove) × (c ≡ a ++ moves) × IsPlayed shape moves calls × T × K
played a b c s t u opened shape calls fresh p opening q told_is T K seeds bays =
    let whole : Plays a (network_of s) c (network_of u) true = plays_on a (network_of s) b (network_of t) c (network_of u) true true p q in
    let from : network_of s ≡ nothing = ap network_of fresh in
    let may : AllMay nothing whole.0 = subst (λ (n : Network). AllMay n whole.0) from whole.2.may in
    let there : network_of u ≡ all_acted nothing whole.0 = whole.2.network ∙ ap (λ (n : Network). all_acted n whole.0) from in
    let later : (network_of u).shape ≡ Some shape =
    ap (λ (n : Network). n.shape) q.2.network ∙ keeps_shape_all (network_of t) q.0 shape q.2.may (opened_shape opened t.shape shape opening) in
    let same : calls ≡ calls_of u.past = cc in (
      moves_of nothing whole.0,
      whole.2.moves ∙ ap (λ (n : Network). a ++ moves_of n whole.0) from,
      record {
        acts = whole.0;
        did = whole.1 refl;
        may = may;
        took = refl;
        opened = ap (λ (n : Network). n.shape) (sym there) ∙ later;
        told = same ∙ ap (λ (n : Network). n.calls) there;
        ordered = ap orders_told (same ∙ ap (λ (n : Network). n.calls) there) ∙ acts_ordered nothing whole.0 ∙ append-nil (orders_of whole.0);
      },
      seeds,
      bays,
    )

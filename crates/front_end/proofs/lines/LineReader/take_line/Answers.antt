use Rattle.std.proofs.Common.{◌∙◌, ◌+◌, ◌-◌, ◌≤◌, ◌∷◌, ◌++◌, length, take, drop, sym, ap, arith}
use Rattle.std.proofs.lemmas.List.{drop_all, drop-drop, length-take}
use Rattle.std.proofs.lemmas.Slice.{between_is}
use Rattle.front_end.specs.Lines.{Reading}
use Rattle.front_end.proofs.lines.LineReader.take_line.Goals as goal

pub returns-in_ok-extend_from_slice-in-Some-clause-found :
    goal.returns-in_ok-extend_from_slice-in-Some-clause-found
returns-in_ok-extend_from_slice-in-Some-clause-found c =
    let i = c.self.inside in
    let n = c.in-Some.length in
    let seen = ap (λ xs. take (i.filled - i.place) (drop i.place xs)) c.deref.ensures.value ∙ between_is i.chunk.items i.place i.filled in
    let same = ap (λ (r : Reading). r.waiting) c.self.view_is in
    let raw = take n (take (i.filled - i.place) (drop i.place c.deref.result.now)) in
    let rest = ap (drop (n + 1)) seen ∙ drop-drop (n + 1) i.place (take i.filled i.chunk.items) in
    (raw, c.in-Some.ensures.1, c.in_ok-extend_from_slice-in-Some.ensures.items, sym (seen ∙ same) ∙ c.in-Some.ensures.2 ∙ ap (λ xs. raw ++ 10 ∷ xs) rest)

pub returns-in_ok-extend_from_slice-in-None-clause-found :
    goal.returns-in_ok-extend_from_slice-in-None-clause-found
returns-in_ok-extend_from_slice-in-None-clause-found c =
    let i = c.self.inside in
    let same = ap (λ (r : Reading). r.waiting) c.self.view_is in
    let seen = ap (λ xs. take (i.filled - i.place) (drop i.place xs)) c.deref.ensures.value ∙ between_is i.chunk.items i.place i.filled ∙ same in
    let size = length-take i.filled i.chunk.items in
    let within : length (take i.filled i.chunk.items) ≤ i.filled = omega (arith, size) in
    (rw seen at c.in-None.ensures, c.in_ok-extend_from_slice-in-None.ensures.items ∙ ap (λ xs. c.args.line.now.items ++ xs) seen, drop_all i.filled _ within)

use Rattle.std.proofs.Common.{◌≡◌, ◌∙◌, ◌++◌, ◌∷◌, [], ◌+◌, ◌-◌, ◌<◌, ◌^◌, List, None, length, length-append, ap, arith}
use Rattle.session_text.specs.declared.tags.Tag.{Tag}
use Rattle.session_text.specs.Tags.{tag_number}
use Rattle.session_text.proofs.TagLemmas.{index_after}
use Rattle.session_text.proofs.tags.Tags.push.Goals as goal

pub invariant_of-self-in-Ok : goal.invariant_of-self-in-Ok
invariant_of-self-in-Ok c =
    let tag : Tag = record { name = c.args.name; is_put = c.args.is_put } in
    let tags : List Tag = c.self.inside.tags.items in
    let after : List Tag = c.push.new.self.items in
    let new : tag_number tags c.args.name ≡ None = ap (λ (ts : List Tag). tag_number ts c.args.name) c.self.view_is ∙ c.requires.new in
    let more : after ≡ tags ++ tag ∷ [] = c.in_ok-push.ensures.items in
    let named : c.in_ok-key.key.items ≡ c.args.name = c.in_ok-key.ensures.items ∙ c.as_slice.ensures in
    let room : length tags < 2 ^ 32 - 1 = omega (arith, ap length c.self.view_is) in
    record {
      each = λ name. index_after (λ k. k.items) c.self.inside.numbers c.insert.new.self tags after tag c.in_ok-key.key.items (c.len-count.result + 1)
          c.in-Ok.ensures.updates c.self.invariant.each new more named (omega arith) name;
      count = omega (arith, ap length more, length-append tags (tag ∷ []));
    }

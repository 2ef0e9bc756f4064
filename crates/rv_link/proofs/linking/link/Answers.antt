use Rattle.std.proofs.Common.{◌+◌, ◌*◌, ◌^◌, ◌≤◌, ap, sym, subst, ◌∙◌}
use Rattle.std.specs.Prelude.{slice_index}
use Rattle.rv_link.specs.Linked.{places_of}
use Rattle.rv_link.proofs.Pushes.{agreeing, text-length}
use Rattle.rv_link.proofs.linking.link.Goals as goal

pub linked_words-requires-clause-places : goal.linked_words-requires-clause-places
linked_words-requires-clause-places c =
    λ f. ap (λ z. slice_index z f.0) c.deref.ensures.value
    ∙ agreeing c.args.functions.now c.in_ok-places.places.entries.items c.requires.selected c.in_ok-places.ensures.entries f

pub returns : goal.returns
returns c =
    let fs = c.args.functions.now in
    record {
      words = c.in_ok-words.ensures;
      starts = c.in_ok-places.ensures.starts;
      frame = c.largest_frame.ensures;
      near = subst (λ n. 65536 + 4 * n + 256 ≤ 2 ^ 30) (sym (text-length (places_of fs) 65536 fs c.requires.selected)) c.requires.near;
    }

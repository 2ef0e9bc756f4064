-- Nodes that are to be gone through, one more of them, and what they mention.
use Rattle.std.proofs.Common.{◌≡◌, ℕ, ◌+◌, ◌<◌, Bool, List, [], ◌∷◌, ◌++◌, length, drop, get_or, sym, ap, ◌∙◌}
use Rattle.std.proofs.lemmas.List.{append-nil, append_assoc, at_drop_more}
use Rattle.tl_base.specs.declared.ids.TermId.{TermId}
use Rattle.exotype.specs.World.{StageState}
use Rattle.check_flow.specs.declared.mentions.Part.{Part}
use Rattle.check_flow.specs.Parts.{Mentions, parts_mentions, part_mentions, all_mentions, mentions_as}

-- the last one is the next
pub parts_more : (w : StageState) (ps : List Part) (p : Part) → parts_mentions w (ps ++ p ∷ []) ≡ part_mentions w p ++ parts_mentions w ps
parts_more w [] p = sym (append-nil (part_mentions w p))
parts_more w (q ∷ ps) p =
    ap (λ (ms : Mentions). ms ++ part_mentions w q) (parts_more w ps p)
    ∙ append_assoc (part_mentions w p) (parts_mentions w ps) (part_mentions w q)

-- nodes in a row are put there from the last one on
pub all_more : (w : StageState) (is_statement : Bool) (below : ℕ) (ts : List TermId) (k j : ℕ) (d : TermId) (ps : List Part) (before : Mentions)
    → j ≡ k + 1 → k < length ts → parts_mentions w ps ≡ all_mentions is_statement w below (drop j ts) ++ before
    → parts_mentions w (ps ++ record { term = get_or ts k d; below = below; is_statement = is_statement } ∷ [])
    ≡ all_mentions is_statement w below (drop k ts) ++ before
all_more w is_statement below ts k j d ps before next within so_far =
    let t = get_or ts k d in
    let all : List TermId → Mentions = all_mentions is_statement w below in
    let own = mentions_as is_statement w below t in
    parts_more w ps (record { term = t; below = below; is_statement = is_statement })
    ∙ ap (λ (ms : Mentions). own ++ ms) (so_far ∙ ap (λ (i : ℕ). all (drop i ts) ++ before) next)
    ∙ sym (append_assoc own (all (drop (k + 1) ts)) before)
    ∙ ap (λ (ms : Mentions). ms ++ before) (sym (at_drop_more all ts k d within))

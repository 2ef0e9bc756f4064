-- How often temporaries are read, as code counts it.
use Rattle.std.proofs.Common.{◌≡◌, ℕ, List, [], ◌∷◌, ◌++◌, length, replicate, set, take, refl, ap, ◌∙◌}
use Rattle.std.proofs.lemmas.List.{length-set, take_at}
use Rattle.tac_form.specs.declared.tac.Tac.{Tac}
use Rattle.tac_form.specs.declared.graph.Step.{Step}
use Rattle.tac_form.specs.declared.graph.FlowBlock.{FlowBlock}
use Rattle.tac_form.specs.Graph.{graph_of}
use Rattle.rv_select.specs.declared.pairs.Reads.{Reads}
use Rattle.rv_select.specs.declared.pairs.Reads.TheVariants.{Never}
use Rattle.rv_select.specs.Pairs.{counted, counted_blocks, counted_steps, once_more, reads_at, reads_of}

-- there are as many temporaries as before
counted-long : (reads : List Reads) (ts : List ℕ) → length (counted reads ts) ≡ length reads
counted-long reads [] = refl
counted-long reads (t ∷ ts) =
    counted-long (set reads t (once_more (reads_at reads t))) ts ∙ length-set reads t (once_more (reads_at reads t))

steps-long : (reads : List Reads) (ss : List Step) → length (counted_steps reads ss) ≡ length reads
steps-long reads [] = refl
steps-long reads (s ∷ ss) = steps-long (counted reads s.reads) ss ∙ counted-long reads s.reads

blocks-long : (reads : List Reads) (bs : List FlowBlock) → length (counted_blocks reads bs) ≡ length reads
blocks-long reads [] = refl
blocks-long reads (b ∷ bs) =
    blocks-long (counted (counted_steps reads b.steps) b.reads) bs
    ∙ (counted-long (counted_steps reads b.steps) b.reads ∙ steps-long reads b.steps)

-- the counts of a function, in what a vector of none becomes
pub reads-made : (code : Tac) (graph : List FlowBlock) (old new rest : List Reads) (len : ℕ) → graph ≡ graph_of code →
    old ≡ replicate code.temps Never →
    length old ≡ len → new ≡ counted_blocks old graph → take len (new ++ rest) ≡ reads_of code
unfolding reads_of
reads-made code graph old new rest len g o l e =
    take_at new rest len (ap length e ∙ (blocks-long old graph ∙ l))
    ∙ (e ∙ (ap (λ z. counted_blocks z graph) o ∙ ap (counted_blocks (replicate code.temps Never)) g))

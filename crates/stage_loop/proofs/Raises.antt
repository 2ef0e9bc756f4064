-- Texts that are raised are short, and what the library says is what shows.
use Rattle.std.proofs.Common.{◌≡◌, ℕ, List, ◌≤◌, ◌<◌, ◌^◌, ◌++◌, length, sym, ap, arith, append_assoc}
use Rattle.std.specs.Prelude.{codes}
use Rattle.std.specs.Fmt.{decimal}
use Rattle.std.proofs.lemmas.Fmt.{length-decimal-le}
use Rattle.std.proofs.lemmas.List.{length-append}
use Rattle.tl_base.specs.declared.place.Place.{Place}
use Rattle.tl_base.specs.Layer.{State, state}
use Rattle.lua_ops.proofs.Placing.{ten_digits}
use Rattle.lua_table.specs.declared.call.LibTurn.{LibTurn}
use Rattle.lua_table.proofs.Keeping as heaps
use Rattle.terra_words.specs.declared.words.FaultKind.{FaultKind}
use Rattle.terra_words.specs.declared.words.FaultKind.TheVariants as faults
use Rattle.exotype.specs.World.{StageState}
use Rattle.stage_library.specs.Keeping.{KeepsStaging}
use Rattle.stage_library.proofs.Keeping.{keeps_in_heap}
use Rattle.terra_lib.specs.Answers.{Turned, turned}
use Rattle.stage_model.specs.Stage.{StagingState}
use Rattle.stage_model.specs.Calls.{bad_argument_text, fault_text, kind_text, said, shown, with_output, with_world}

-- ---- texts

kind-is-short : (kind : FaultKind) → length (kind_text kind) ≤ 10
kind-is-short faults.BadAddress = omega arith
kind-is-short faults.DivZero = omega arith
kind-is-short faults.StackFull = omega arith
kind-is-short faults.CallDepth = omega arith
kind-is-short faults.NoReturn = omega arith
kind-is-short faults.BadCall = omega arith

pub fault-is-short : (kind : FaultKind) (place : Place) → place.line < 2 ^ 32 → place.word < 2 ^ 32 → length (fault_text kind place) ≤ 1000
fault-is-short kind place l w =
    let a = ten_digits place.line l in
    let b = ten_digits place.word w in
    let d = kind-is-short kind in
    grind (length-append, arith)

twenty-digits : (n : ℕ) → n < 2 ^ 64 → length (decimal n) ≤ 20
twenty-digits n h =
    let few : n < 10 ^ 20 = omega arith in
    length-decimal-le 20 n (omega arith) few h

pub position-is-short : (position : ℕ) → position < 2 ^ 64 → length (bad_argument_text position) ≤ 1000
position-is-short position h =
    let a = twenty-digits position h in
    grind (length-append, arith)

-- the parts of a fault's text
pub fault-parts : (fault kind at line colon word : List ℕ) →
    fault ++ (kind ++ (at ++ (line ++ (colon ++ word)))) ≡ fault ++ kind ++ at ++ (line ++ colon ++ word)
fault-parts fault kind at line colon word = simp append_assoc

pub position-parts : (bad position call : List ℕ) → bad ++ (position ++ call) ≡ bad ++ position ++ call
position-parts bad position call = simp append_assoc

-- ---- what shows

pub said-so : (s : State StagingState) (go : State StageState → Turned) (turn : LibTurn) (v : StageState) (left : ℕ) →
    turned turn (state v left) ≡ go (state s.world.typing.stage s.left) → said s go ≡ shown turn (state (with_world s.world v) left)
said-so s go turn v left h = ap (λ (t : Turned). shown t.turn (state (with_world s.world t.left.world) t.left.left)) (sym h)

-- what was printed keeps the world
pub printed-keeps : (w : StageState) (out : List ℕ) → KeepsStaging w (with_output w out)
printed-keeps w out = keeps_in_heap w _ (heaps.keeps_printed w.heap out)

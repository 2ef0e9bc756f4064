-- Specialising keeps worlds sound.
use Rattle.std.proofs.Common.{◌≡◌, true, List, Some, None}
use Rattle.tl_base.specs.declared.ids.EnvId.{EnvId}
use Rattle.tl_base.specs.declared.ids.NodeId.{NodeId}
use Rattle.tl_base.specs.declared.place.Place.{Place}
use Rattle.tl_base.specs.Plan.{Give, Read}
use Rattle.tl_tree.specs.declared.node.Expression.{Expression}
use Rattle.tl_tree.specs.declared.node.Expression.TheVariants as expressions
use Rattle.tl_tree.specs.declared.node.Statement.{Statement}
use Rattle.tl_tree.specs.declared.node.Statement.TheVariants as of_statements
use Rattle.tl_tree.specs.Item.{Item}
use Rattle.tl_tree.specs.Item as kept
use Rattle.tl_tree.specs.Nodes.{item_at}
use Rattle.tl_tree.specs.Code.{Items, place_of}
use Rattle.lua_value.specs.declared.value.Value.TheVariants as values
use Rattle.lua_table.specs.Heap.{next_cell}
use Rattle.terra_term.specs.WellTyped.{is_placed}
use Rattle.exotype.specs.World.{StageState}
use Rattle.check_sound.specs.Sound.{IsSound}
use Rattle.check_sound.specs.Layers.{LayerKeepsSound}
use Rattle.spec_model.specs.declared.end.End.TheVariants.{Gave}
use Rattle.spec_model.specs.declared.job.Job.TheVariants as jobs
use Rattle.spec_model.specs.declared.job.SpecJob.{SpecJob}
use Rattle.spec_model.specs.declared.target.Target.TheVariants as targets
use Rattle.spec_model.specs.Nodes.{terra_parts_at}
use Rattle.spec_model.specs.Plans.{declaring}
use Rattle.spec_model.specs.Structs.{entries_plan, new_struct, struct_plan, local_struct_plan, anonymous_struct_plan}
use Rattle.spec_model.specs.Definitions.{over, held_in, storing, define, standing, new_function, function_type, terra_plan}
use Rattle.spec_model.specs.Definitions.{local_terra_plan, anonymous_plan, declare_plan, local_declare_plan}
use Rattle.spec_model.specs.Meaning.{value_plan, definition_plan, first_of, spec}
use Rattle.spec_sound.specs.Sound.{word_of, ArePlaced, SpecialisingKeepsSound}
use Rattle.spec_sound.proofs.Following.{any-still}
use Rattle.spec_sound.proofs.Running.{Fine, EachFine, keeps-sound}
use Rattle.spec_sound.proofs.OfPlans.{fine-declaring}
use Rattle.spec_sound.proofs.OfNames.{placed-at, word-placed}
use Rattle.spec_sound.proofs.OfExpressions.{fine-expression-plan}
use Rattle.spec_sound.proofs.OfStatements.{fine-statement-plan}
use Rattle.spec_sound.proofs.OfQuotes.{fine-backtick, fine-quote, fine-entries, fine-new-struct}
use Rattle.spec_sound.proofs.OfDefinitions.{fine-storing, fine-target, fine-define, fine-new-function, fine-standing, fine-function-type}
use Rattle.spec_sound.proofs.OfDefinitions.{function-still}

module _ (items : Items) (all : ArePlaced items) where
  each-fine : EachFine items
  each-fine (jobs.Expression n env) w sound =
      fine-expression-plan w sound items all (item_at items n) n env (placed-at items all n)
  each-fine (jobs.Statement n env) w sound =
      fine-statement-plan w sound items all (item_at items n) n env (placed-at items all n)

  -- ---- functions

  fine-terra : (w : StageState) → IsSound w → (path body n : NodeId) (place : Place) (env : EnvId) →
      is_placed place ≡ true → Fine (terra_plan items path body n place env) w
  fine-terra w sound path body n place env placed =
      fine-target w sound items path env
      (λ t struct. Read (λ u. standing u (held_in u.heap t) t place (λ f.
      define items f (terra_parts_at items body) n struct place env over)))
      (λ t struct v a there. fine-standing v a.sound (held_in v.heap t) t place
      (λ f. define items f (terra_parts_at items body) n struct place env over) placed
      (λ f u b h. fine-define u b.sound items f h (terra_parts_at items body) n struct
      (any-still v u a.sound b struct there) place placed env over (λ x c. tt)))

  fine-local-terra : (w : StageState) → IsSound w → (body : NodeId) (place : Place) (env : EnvId) →
      is_placed place ≡ true → Fine (local_terra_plan items body place env) w
  fine-local-terra w sound body place env placed =
      fine-new-function w sound place None
      (λ f. declaring env (values.TerraFunction f)
      (define items f (terra_parts_at items body) body None place env over)) placed tt
      (λ f v a h. fine-declaring v a.sound env (values.TerraFunction f)
      (define items f (terra_parts_at items body) body None place env over)
      (λ u b. fine-define u b.sound items f (function-still v u f b h) (terra_parts_at items body) body None tt place
      placed env over (λ x c. tt)))

  fine-anonymous : (w : StageState) → IsSound w → (body : NodeId) (place : Place) (env : EnvId) →
      is_placed place ≡ true → Fine (anonymous_plan items body place env) w
  fine-anonymous w sound body place env placed =
      fine-new-function w sound place None
      (λ f. define items f (terra_parts_at items body) body None place env (Give (Gave
      (values.TerraFunction f)))) placed tt
      (λ f v a h. fine-define v a.sound items f h (terra_parts_at items body) body None tt place placed env
      (Give (Gave (values.TerraFunction f))) (λ x c. tt))

  fine-declare : (w : StageState) → IsSound w → (path type : NodeId) (place : Place) (env : EnvId) →
      is_placed place ≡ true → Fine (declare_plan items path type place env) w
  fine-declare w sound path type place env placed =
      fine-target w sound items path env
      (λ t struct. function_type items type env (λ of.
      new_function place (Some of) (λ f. storing t (values.TerraFunction f) over)))
      (λ t struct v a there. fine-function-type v items type env
      (λ of. new_function place (Some of) (λ f. storing t (values.TerraFunction f) over))
      (λ of u b so. fine-new-function u b.sound place (Some of) (λ f. storing t (values.TerraFunction f) over) placed so
      (λ f x c h. fine-storing x c.sound t (values.TerraFunction f) over (λ y d. tt))))

  fine-local-declare : (w : StageState) → IsSound w → (type : NodeId) (place : Place) (env : EnvId) →
      is_placed place ≡ true → Fine (local_declare_plan items type place env) w
  fine-local-declare w sound type place env placed =
      let t = targets.Cell (next_cell w.heap) in
      fine-declaring w sound env values.Nil
      (function_type items type env (λ of.
      new_function place (Some of) (λ f. storing t (values.TerraFunction f) over)))
      (λ v a. fine-function-type v items type env
      (λ of. new_function place (Some of) (λ f. storing t (values.TerraFunction f) over))
      (λ of u b so. fine-new-function u b.sound place (Some of) (λ f. storing t (values.TerraFunction f) over) placed so
      (λ f x c h. fine-storing x c.sound t (values.TerraFunction f) over (λ y d. tt))))

  -- ---- structs

  fine-struct : (w : StageState) → IsSound w → (path : NodeId) (ns : List NodeId) (place : Place) (env : EnvId) →
      Fine (struct_plan items path ns place env) w
  fine-struct w sound path ns place env =
      fine-target w sound items path env
      (λ t none. new_struct place (λ s. storing t (values.TerraType s) (entries_plan items ns s 1 env over)))
      (λ t none v a there. fine-new-struct v a.sound place
      (λ s. storing t (values.TerraType s) (entries_plan items ns s 1 env over))
      (λ s u b. fine-storing u b.sound t (values.TerraType s) (entries_plan items ns s 1 env over)
      (λ x c. fine-entries x c.sound items ns s 1 env over (λ y d. tt))))

  fine-local-struct : (w : StageState) → IsSound w → (ns : List NodeId) (place : Place) (env : EnvId) →
      Fine (local_struct_plan items ns place env) w
  fine-local-struct w sound ns place env =
      fine-new-struct w sound place (λ s. declaring env (values.TerraType s) (entries_plan items ns s 1 env over))
      (λ s v a. fine-declaring v a.sound env (values.TerraType s) (entries_plan items ns s 1 env over)
      (λ u b. fine-entries u b.sound items ns s 1 env over (λ x c. tt)))

  fine-anonymous-struct : (w : StageState) → IsSound w → (ns : List NodeId) (place : Place) (env : EnvId) →
      Fine (anonymous_struct_plan items ns place env) w
  fine-anonymous-struct w sound ns place env =
      fine-new-struct w sound place (λ s. entries_plan items ns s 1 env (Give (Gave (values.TerraType s))))
      (λ s v a. fine-entries v a.sound items ns s 1 env (Give (Gave (values.TerraType s))) (λ x c. tt))

  -- ---- what is asked for

  fine-value : (w : StageState) → IsSound w → (x : Expression) (place : Place) (env : EnvId) → is_placed place ≡ true →
      Fine (value_plan items x place env) w
  fine-value w sound (expressions.Terra body) place env placed = fine-anonymous w sound body place env placed
  fine-value w sound (expressions.Struct ns) place env placed = fine-anonymous-struct w sound ns place env
  fine-value w sound (expressions.Quote q) place env placed = fine-quote w sound items q place env placed
  fine-value w sound (expressions.Backtick e) place env placed = fine-backtick w e place env
  fine-value w sound x place env placed = tt

  fine-definition : (w : StageState) → IsSound w → (x : Statement) (n : NodeId) (place : Place) (env : EnvId) →
      is_placed place ≡ true → is_placed (word_of (kept.Statement place x)) ≡ true →
      Fine (definition_plan items x n place env) w
  fine-definition w sound (of_statements.Terra path body) n place env placed word_placed =
      fine-terra w sound path body n place env placed
  fine-definition w sound (of_statements.DeclareTerra path type) n place env placed word_placed =
      fine-declare w sound path type place env placed
  fine-definition w sound (of_statements.LocalTerra word name body) n place env placed word_placed =
      fine-local-terra w sound body word env word_placed
  fine-definition w sound (of_statements.LocalDeclareTerra word name type) n place env placed word_placed =
      fine-local-declare w sound type word env word_placed
  fine-definition w sound (of_statements.Struct path ns) n place env placed word_placed = fine-struct w sound path ns place env
  fine-definition w sound (of_statements.LocalStruct word name ns) n place env placed word_placed =
      fine-local-struct w sound ns word env
  fine-definition w sound x n place env placed word_placed = tt

  fine-first : (w : StageState) → IsSound w → (x : Item) (n : NodeId) (env : EnvId) → is_placed (place_of x) ≡ true →
      is_placed (word_of x) ≡ true → Fine (first_of items x n env) w
  fine-first w sound (kept.Expression place x) n env placed word_placed = fine-value w sound x place env placed
  fine-first w sound (kept.Statement place x) n env placed word_placed =
      fine-definition w sound x n place env placed word_placed
  fine-first w sound x n env placed word_placed = tt

  keeps : (task : SpecJob) → LayerKeepsSound (spec items task)
  keeps task =
      keeps-sound items task each-fine
      (λ w sound. fine-first w sound (item_at items task.node) task.node task.env (placed-at items all task.node)
      (word-placed items all task.node))

pub specialising-keeps : SpecialisingKeepsSound
specialising-keeps items all task = keeps items all task

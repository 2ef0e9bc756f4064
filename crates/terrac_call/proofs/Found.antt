-- What `clap` finds for an argument with one number: the number passed the argument's parser, since a walk has a fault where one doesn't.
use Rattle.std.proofs.Common.{◌≡◌, ◌⊎◌, inl, inr, ℕ, zero, suc, ◌≤◌, Bool, true, false, cond, not, ◌&&◌, ◌||◌, List, [], ◌∷◌, ◌++◌}
use Rattle.std.proofs.Common.{length, drop, fold, find, Decides, Option, Some, None, is_some, option_and_then, slice_get, refl, sym, ap}
use Rattle.std.proofs.Common.{subst, ◌∙◌, arith, ◌+◌, min, if◌then◌else◌, ◌==◌, bytes_eq, encode_utf8, chars}
use Rattle.std.specs.List.{list_any}
use Rattle.std.specs.Option.{option_map_or}
use Rattle.std.specs.Str.Parse.{digits_value, without_leading_plus}
use Rattle.std.proofs.lemmas.Bool.{ne_eqb}
use Rattle.std.proofs.lemmas.Slice.Eq.{bytes_eq-Decides}
use Rattle.clap.specs.Lexer.{long_of, short_of}
use Rattle.clap.specs.Matches.{count_text}
use Rattle.clap.specs.Facts.{parser_of_value, unwrap_or_range, explicit_source}
use Rattle.clap.specs.Values.{IsUnsignedIn, refused_kind}
use Rattle.clap.specs.ValueTests.{accepts}
use Rattle.clap.specs.Kinds.{Kinds, check_kinds, or_else, range_kinds, value_kinds}
use Rattle.clap.specs.Takes.{is_given}
use Rattle.clap.specs.Walk.{Held, Names, Outcome, Row, Rule, Step, Text, Waiting, Walk, action_of, after_flag, after_step, arg_by_id}
use Rattle.clap.specs.Walk.{arg_by_index, arg_by_long, arg_by_short, at_row, attached_value, bundle, bundle_met, bundle_step}
use Rattle.clap.specs.Walk.{default_rows, done, finished, flag_met, has_row, idle, is_pending, count_of, new_count, stronger, long_met, long_or_other, more_values}
use Rattle.clap.specs.Walk.{next, nothing_held, option, option_met, option_word, plain, plain_word, positional}
use Rattle.clap.specs.Walk.{reacted, reading_by, refused, settled, settled_rows, short_met, short_or_plain, subcommand}
use Rattle.clap.specs.Walk.{subcommand_met, subcommand_or_other, takes_several, takes_values, to_positional, trailing, used, used_as, used_by_id, value}
use Rattle.clap.specs.Walk.{rows_after, values_or_missing, waits, walk, walk_from, walked, walked_from, with_count, with_default, with_values, without}
use Rattle.clap.specs.Walk.{word_met}
use Rattle.clap.specs.Simple.{Shape}
use Rattle.clap.specs.Faults.{action_fault, bundle_fault, bundle_step_fault, check_fault, flag_word_fault, flags_fault}
use Rattle.clap.specs.Faults.{level_fault, long_fault, option_fault, other_fault, positional_fault, react_fault, set_fault}
use Rattle.clap.specs.Faults.{settle_fault, short_fault, step_fault, stray_fault, turn_fault, use_fault, walk_fault, word_fault}
use Rattle.clap.specs.declared.builder.action.ArgAction.{ArgAction}
use Rattle.clap.specs.declared.error.kind.ErrorKind.TheVariants as kind
use Rattle.clap.specs.declared.builder.action.ArgAction.TheVariants as action
use Rattle.clap.specs.declared.builder.range.ValueRange.{ValueRange}
use Rattle.clap.specs.declared.builder.value_parser.Reading.{Reading}
use Rattle.clap.specs.declared.builder.value_parser.ValueParser.{ValueParser}
use Rattle.clap.specs.declared.builder.value_parser.ValueParser.TheVariants as parsers
use Rattle.clap.specs.declared.parser.matches.ValueSource.{ValueSource}
use Rattle.clap.specs.declared.parser.matches.ValueSource.TheVariants.{CommandLine, DefaultValue}
use Rattle.clap.proofs.ValueTestLemmas.{accepts-Accepts}
use Rattle.terrac_call.specs.Words.{number_found, number_or_zero, text_or_none}
use Rattle.terrac_call.proofs.Asking.{number_read}

-- ---- tests and kinds

same_text : (s t : Text) → bytes_eq s t ≡ true → s ≡ t
same_text s t e = by (bytes_eq s t) e (bytes_eq-Decides s t)
  where
    by : (b : Bool) → b ≡ true → Decides b (s ≡ t) → s ≡ t
    by true _ d = d.0 refl
    by false e d = absurd cc

-- each of a list is so
abbrev pub Each : {X : Type 0} (P : X → Type 0) → List X → Type 0
Each P [] = Unit {0}
Each P (x ∷ xs) = P x × Each P xs

pub all_found : {X : Type 0} (P : X → Type 0) (test : X → Bool) (xs : List X) (x : X) → Each P xs → find test xs ≡ Some x → P x
all_found P test [] x all found = absurd cc
all_found P test (y ∷ ys) x all found = by (test y) (λ e. all_found P test ys x all.1 e) found
  where
    by : (b : Bool) → (find test ys ≡ Some x → P x) → cond b (Some y) (find test ys) ≡ Some x → P x
    by true later e = let same : y ≡ x = cc in subst P same all.0
    by false later e = later e

pub or_both : (a b : Kinds) → or_else a b ≡ [] → (a ≡ []) × (b ≡ [])
or_both [] b e = (refl, e)
or_both (x ∷ a) b e = absurd cc

one_value : (n : ℕ) → range_kinds 1 1 n ≡ [] → n ≡ 1
one_value zero e = absurd cc
one_value (suc zero) e = refl
one_value (suc (suc n)) e =
    let not_zero : (suc (suc n) == 0) ≡ false = ne_eqb (suc (suc n)) 0 (λ e. omega arith) in
    let not_one : (1 == suc (suc n)) ≡ false = ne_eqb 1 (suc (suc n)) (λ e. omega arith) in
    let bad : kind.WrongNumberOfValues ∷ [] ≡ [] = rw (not_zero, not_one) at e in
    absurd cc

passes : (ic : Bool) (p : ValueParser) (v : Text) → value_kinds ic p v ≡ [] → accepts ic p v ≡ true
passes ic p v e = by (accepts ic p v) e
  where
    by : (b : Bool) → (if b then [] else refused_kind p ∷ []) ≡ [] → b ≡ true
    by true _ = refl
    by false e = absurd cc

-- an argument with this id has one value each time, a number from `least` to `most`
pub record IsNumber (k : Text) (least most : ℕ) (b : Rule) : Type 0 where
  pub id : bytes_eq b.id k ≡ true
  pub set : action_of b ≡ action.Set
  pub range : unwrap_or_range b.range ≡ record { start_inclusive = 1; end_inclusive = 1 }
  pub parser : parser_of_value b.parser ≡ parsers.Unsigned least most

-- the default of such an argument, if it has one, is a number in the range
abbrev pub IsDefault : (least most : ℕ) → List Text → Type 0
IsDefault least most [] = Unit {0}
IsDefault least most (d ∷ []) = IsUnsignedIn least most d
IsDefault least most (d ∷ e ∷ ds) = ⊥

abbrev pub HasDefault : List Text → Type 0
HasDefault [] = ⊥
HasDefault (d ∷ ds) = Unit {0}

-- no other argument of a command has that id
abbrev pub IsOne : Text → Rule → Rule → Type 0
IsOne k b a = bytes_eq a.id k ≡ true → a ≡ b

module _ (k : Text) where
  -- ---- the rows of one id

  abbrev only : List Row → List Row
  only [] = []
  only (r ∷ rs) = cond (bytes_eq r.id k) (r ∷ only rs) (only rs)

  skip : (r : Row) (rs : List Row) → bytes_eq r.id k ≡ false → only (r ∷ rs) ≡ only rs
  skip r rs far = ap (λ (b : Bool). cond b (r ∷ only rs) (only rs)) far

  keep : (r : Row) (rs : List Row) → bytes_eq r.id k ≡ true → only (r ∷ rs) ≡ r ∷ only rs
  keep r rs near = ap (λ (b : Bool). cond b (r ∷ only rs) (only rs)) near

  -- a change of the rows of another id leaves them
  at_other : (id : Text) (change : Row → List Row) (missing rows : List Row) → bytes_eq id k ≡ false
      → ((r : Row) (rs : List Row) → bytes_eq r.id k ≡ false → only (change r ++ rs) ≡ only rs) → only missing ≡ []
      → only (at_row id change missing rows) ≡ only rows
  at_other id change missing [] other keeps none = none
  at_other id change missing (r ∷ rs) other keeps none = by (bytes_eq r.id id) refl (at_other id change missing rs other keeps none)
    where
      by : (b : Bool) → bytes_eq r.id id ≡ b → only (at_row id change missing rs) ≡ only rs
          → only (if b then change r ++ rs else r ∷ at_row id change missing rs) ≡ only (r ∷ rs)
      by true e later =
          let far : bytes_eq r.id k ≡ false = subst (λ (t : Text). bytes_eq t k ≡ false) (sym (same_text r.id id e)) other in
          keeps r rs far ∙ sym (skip r rs far)
      by false e later = ap (λ (xs : List Row). cond (bytes_eq r.id k) (r ∷ xs) xs) later

  gone_other : (id : Text) (rows : List Row) → bytes_eq id k ≡ false → only (without id rows) ≡ only rows
  gone_other id rows other = at_other id (λ _. []) [] rows other (λ r rs far. refl) refl

  values_other : (id : Text) (how : Reading) (s : ValueSource) (values : List Text) (rows : List Row) → bytes_eq id k ≡ false
      → only (with_values id how s values rows) ≡ only rows
  values_other id how s values rows other =
      at_other id (more_values s values) _ rows other (λ r rs far. skip _ rs far) (skip _ [] other)

  count_other : (id : Text) (how : Reading) (s : ValueSource) (n : ℕ) (rows : List Row) → bytes_eq id k ≡ false
      → only (with_count id how s n rows) ≡ only rows
  count_other id how s n rows other =
      at_other id (new_count s n) _ rows other
      (λ r rs far. skip (record {
        id = r.id;
        values = r.values ++ (count_text n ∷ []);
        count = Some n;
        source = Some (stronger r.source s);
        reading = r.reading;
      }) rs far)
      (skip _ [] other)

  as_other : (x : ArgAction) (id : Text) (how : Reading) (values : List Text) (rows : List Row) → bytes_eq id k ≡ false
      → only (used_as x id how values rows) ≡ only rows
  as_other action.Set id how values rows other =
      values_other id how CommandLine values (without id rows) other ∙ gone_other id rows other
  as_other action.SetTrue id how values rows other =
      values_other id how CommandLine values (without id rows) other ∙ gone_other id rows other
  as_other action.SetFalse id how values rows other =
      values_other id how CommandLine values (without id rows) other ∙ gone_other id rows other
  as_other action.Append id how values rows other = values_other id how CommandLine values rows other
  as_other action.Count id how [] rows other = count_other id how CommandLine (min (count_of id rows + 1) 255) (without id rows) other
      ∙ gone_other id rows other
  as_other action.Count id how (v ∷ vs) rows other =
      values_other id how CommandLine (v ∷ vs) (without id rows) other ∙ gone_other id rows other
  as_other action.Help id how values rows other = refl
  as_other action.HelpShort id how values rows other = refl
  as_other action.HelpLong id how values rows other = refl
  as_other action.Version id how values rows other = refl

  -- where there are none of the id, a change leaves what is put at the end
  at_none : (change : Row → List Row) (missing rows : List Row) → only rows ≡ [] → only (at_row k change missing rows) ≡ only missing
  at_none change missing [] none = refl
  at_none change missing (r ∷ rs) none = by (bytes_eq r.id k) refl (λ e. at_none change missing rs e)
    where
      by : (b : Bool) → bytes_eq r.id k ≡ b → (only rs ≡ [] → only (at_row k change missing rs) ≡ only missing)
          → only (if b then change r ++ rs else r ∷ at_row k change missing rs) ≡ only missing
      by true e later = let some : r ∷ only rs ≡ [] = sym (keep r rs e) ∙ none in absurd cc
      by false e later = skip r (at_row k change missing rs) e ∙ later (sym (skip r rs e) ∙ none)

  none_here : (rows : List Row) → has_row k rows ≡ false → only rows ≡ []
  none_here [] e = refl
  none_here (r ∷ rs) e = by (bytes_eq r.id k) (λ e. none_here rs e) e
    where
      by : (b : Bool) → (has_row k rs ≡ false → only rs ≡ []) → (b || has_row k rs) ≡ false → cond b (r ∷ only rs) (only rs) ≡ []
      by true later e = absurd cc
      by false later e = later e

  -- what a search finds is the first of them
  first_only : (rows : List Row) → find (λ r. bytes_eq r.id k) rows ≡ slice_get (only rows) 0
  first_only [] = refl
  first_only (r ∷ rs) = by (bytes_eq r.id k) (first_only rs)
    where
      by : (b : Bool) → find (λ x. bytes_eq x.id k) rs ≡ slice_get (only rs) 0
          → cond b (Some r) (find (λ x. bytes_eq x.id k) rs) ≡ slice_get (cond b (r ∷ only rs) (only rs)) 0
      by true later = refl
      by false later = later

  -- there is one
  abbrev Full : List Row → Type 0
  Full [] = ⊥
  Full (r ∷ rs) = Unit {0}

  some_here : (rows : List Row) → has_row k rows ≡ true → Full (only rows)
  some_here [] e = absurd cc
  some_here (r ∷ rs) e = by (bytes_eq r.id k) (λ e. some_here rs e) e
    where
      by : (b : Bool) → (has_row k rs ≡ true → Full (only rs)) → (b || has_row k rs) ≡ true → Full (cond b (r ∷ only rs) (only rs))
      by true later e = tt
      by false later e = later e

  given_here : (rows : List Row) → is_given k rows ≡ true → Full (only rows)
  given_here rows e =
      by (only rows) (sym (ap (λ (o : Option Row). option_map_or (λ r. explicit_source r.source) o false) (first_only rows)) ∙ e)
    where
      by : (rs : List Row) → option_map_or (λ r. explicit_source r.source) (slice_get rs 0) false ≡ true → Full rs
      by [] e = absurd cc
      by (r ∷ rs) e = tt

  -- an argument of a command has the id
  abbrev pub HasId : List Rule → Type 0
  HasId [] = ⊥
  HasId (a ∷ rules) = (bytes_eq a.id k ≡ true) ⊎ HasId rules

  module _ (least most : ℕ) where
    -- a number of the range stands in a row, and nothing else
    record IsFound (r : Row) : Type 0 where
      text : Text
      is : r.values ≡ text ∷ []
      passed : IsUnsignedIn least most text

    -- at most one row has the id, and it is such a row
    abbrev AtMost : List Row → Type 0
    AtMost [] = Unit {0}
    AtMost (r ∷ []) = IsFound r
    AtMost (r ∷ s ∷ rs) = ⊥

    abbrev Good : List Row → Type 0
    Good rows = AtMost (only rows)

    single : (r : Row) (rs : List Row) → AtMost (r ∷ rs) → rs ≡ []
    single r [] h = refl
    single r (s ∷ rs) h = absurd h

    gone : (rows : List Row) → AtMost (only rows) → only (without k rows) ≡ []
    gone [] h = refl
    gone (r ∷ rs) h = by (bytes_eq r.id k) refl (λ h. gone rs h)
      where
        by : (b : Bool) → bytes_eq r.id k ≡ b → (AtMost (only rs) → only (without k rs) ≡ [])
            → only (if b then [] ++ rs else r ∷ at_row k (λ _. []) [] rs) ≡ []
        by true e later = single r (only rs) (subst AtMost (keep r rs e) h)
        by false e later = skip r (without k rs) e ∙ later (subst AtMost (skip r rs e) h)

    -- one number for it, where there was none
    put_one : (how : Reading) (s : ValueSource) (v : Text) (rows : List Row) → only rows ≡ [] → bytes_eq k k ≡ true → IsUnsignedIn least most v
        → AtMost (only (with_values k how s (v ∷ []) rows))
    put_one how s v rows none self ok =
        subst AtMost (sym (at_none (more_values s (v ∷ [])) _ rows none ∙ keep _ [] self)) (record { text = v; is = refl; passed = ok })

    module _ (b : Rule) (number : IsNumber k least most b) where
      id_is : b.id ≡ k
      id_is = same_text b.id k number.id

      self : bytes_eq k k ≡ true
      self = subst (λ (t : Text). bytes_eq t k ≡ true) id_is number.id

      -- ---- one use

      value_passes : (v : Text) (rows : List Row) (again : Bool) → action_fault (action_of b) again b (v ∷ []) rows ≡ []
          → IsUnsignedIn least most v
      value_passes v rows again fault =
          let set : set_fault again b (v ∷ []) rows ≡ [] =
          sym (ap (λ (x : ArgAction). action_fault x again b (v ∷ []) rows) number.set) ∙ fault in
          let kinds : value_kinds b.ignore_case (parser_of_value b.parser) v ≡ [] = (or_both _ _ (or_both _ _ set).1).0 in
          accepts-Accepts b.ignore_case (parsers.Unsigned least most) v
          (subst (λ (p : ValueParser). accepts b.ignore_case p v ≡ true) number.parser
          (passes b.ignore_case (parser_of_value b.parser) v kinds))

      used_own : (again : Bool) (values : List Text) (rows : List Row) → use_fault again b values rows ≡ [] → AtMost (only rows)
          → AtMost (only (used b values rows))
      used_own again values rows fault h =
          let parts = or_both _ _ fault in
          let count : length values ≡ 1 =
          one_value (length values)
          (subst (λ (r : ValueRange). range_kinds r.start_inclusive r.end_inclusive (length values) ≡ []) number.range parts.0) in
          by values count parts.1
        where
          by : (values : List Text) → length values ≡ 1 → action_fault (action_of b) again b (values_or_missing b values) rows ≡ []
              → AtMost (only (used b values rows))
          by [] count fault = absurd (omega (arith, count))
          by (v ∷ w ∷ vs) count fault = absurd (omega (arith, count))
          by (v ∷ []) count fault =
              subst (λ (x : ArgAction). AtMost (only (used_as x b.id (reading_by b) (v ∷ []) rows))) (sym number.set)
              (subst (λ (t : Text). AtMost (only (with_values t (reading_by b) CommandLine (v ∷ []) (without t rows)))) (sym id_is)
              (put_one (reading_by b) CommandLine v (without k rows) (gone rows h) self (value_passes v rows again fault)))

      used_good : (again : Bool) (a : Rule) (values : List Text) (rows : List Row) → IsOne k b a → use_fault again a values rows ≡ []
          → AtMost (only rows) → AtMost (only (used a values rows))
      used_good again a values rows one fault h = by (bytes_eq a.id k) refl
        where
          by : (x : Bool) → bytes_eq a.id k ≡ x → AtMost (only (used a values rows))
          by true e =
              let same : a ≡ b = one e in
              subst (λ (x : Rule). AtMost (only (used x values rows))) (sym same)
              (used_own again values rows (subst (λ (x : Rule). use_fault again x values rows ≡ []) same fault) h)
          by false e = subst AtMost (sym (as_other (action_of a) a.id (reading_by a) (values_or_missing a values) rows e)) h

      -- ---- the walk, of a command whose arguments these are

      module _ (s : Shape) (ones : Each (IsOne k b) s.rules) where
        found : (test : Rule → Bool) (a : Rule) → find test s.rules ≡ Some a → IsOne k b a
        found test a e = all_found (IsOne k b) test s.rules a ones e

        settle_rows : (p : Option (Text × List Text)) (rows : List Row)
            → option_map_or (λ p. option_map_or (λ a. use_fault s.args_override_self a p.1 rows) (arg_by_id s.rules p.0) []) p [] ≡ []
            → AtMost (only rows) → AtMost (only (settled_rows s.rules p rows))
        settle_rows None rows fault h = h
        settle_rows (Some p) rows fault h = by (arg_by_id s.rules p.0) refl fault
          where
            by : (o : Option Rule) → arg_by_id s.rules p.0 ≡ o
                → option_map_or (λ a. use_fault s.args_override_self a p.1 rows) o [] ≡ []
                → AtMost (only (used_by_id o p.1 rows))
            by None e fault = h
            by (Some a) e fault = used_good s.args_override_self a p.1 rows (found _ a e) fault h

        settle_good : (h : Held) → settle_fault s.rules s.args_override_self h ≡ [] → Good h.rows → Good (settled s.rules h).rows
        settle_good h fault good = settle_rows h.pending h.rows fault good

        react_good : (a : Rule) (values : List Text) (h : Held) → IsOne k b a → react_fault s.rules s.args_override_self a values h ≡ []
            → Good h.rows → Good (reacted s.rules a values h).rows
        react_good a values h one fault good =
            let parts = or_both _ _ fault in
            used_good s.args_override_self a values (settled s.rules h).rows one parts.1 (settle_good h parts.0 good)

        option_good : (a : Rule) (v : Option Text) (h : Held) → IsOne k b a → option_fault s.rules s.args_override_self a v h ≡ []
            → Good h.rows → Good (option_met s.rules a v h).0.rows
        option_good a (Some v) h one fault good = react_good a (v ∷ []) h one fault good
        option_good a None h one fault good = settle_good h fault good

        long_good : (o : Option Rule) (v : Option Text) (h : Held) → ((a : Rule) → o ≡ Some a → IsOne k b a)
            → long_fault s.rules s.args_override_self o v h ≡ [] → Good h.rows → Good (long_met s.rules o v h).0.rows
        long_good None v h one fault good = absurd cc
        long_good (Some a) v h one fault good = by (takes_values a) v fault
          where
            by : (x : Bool) (v : Option Text)
                → (if x then option_fault s.rules s.args_override_self a v h
                else (if is_some v then kind.TooManyValues ∷ [] else react_fault s.rules s.args_override_self a [] h)) ≡ []
                → Good (if x then option_met s.rules a v h else flag_met s.rules a v h).0.rows
            by true v fault = option_good a v h (one a refl) fault good
            by false (Some v) fault = absurd cc
            by false None fault = react_good a [] h (one a refl) fault good

        short_good : (o : Option Rule) (rest : Text) (h : Held) (go : Held → Held × Outcome) (fault_of : Held → Kinds)
            → ((a : Rule) → o ≡ Some a → IsOne k b a)
            → ((after : Held) → fault_of after ≡ [] → Good after.rows → Good (go after).0.rows)
            → short_fault s.rules s.args_override_self o rest h fault_of ≡ [] → Good h.rows → Good (short_met s.rules o rest h go).0.rows
        short_good None rest h go fault_of one on fault good = absurd cc
        short_good (Some a) rest h go fault_of one on fault good = by (takes_values a) fault
          where
            by : (x : Bool)
                → (if x then option_fault s.rules s.args_override_self a (attached_value rest) h
                else or_else (react_fault s.rules s.args_override_self a [] h) (fault_of (reacted s.rules a [] h))) ≡ []
                → Good (if x then option_met s.rules a (attached_value rest) h else go (reacted s.rules a [] h)).0.rows
            by true fault = option_good a (attached_value rest) h (one a refl) fault good
            by false fault =
                let parts = or_both _ _ fault in
                on (reacted s.rules a [] h) parts.1 (react_good a [] h (one a refl) parts.0 good)

        bundle_good : (n : ℕ) (flags : Text) (pass : ℕ) (so_far : Outcome) (h : Held)
            → flags_fault s.rules s.args_override_self n flags pass h ≡ [] → Good h.rows
            → Good (bundle_met s.rules n flags pass so_far h).0.rows
        unfolding flags_fault bundle_met
        bundle_good zero flags pass so_far h fault good = good
        bundle_good (suc n) flags pass so_far h fault good =
            by (slice_get (chars flags) 0) pass
            (λ flags pass so_far h fault good. bundle_good n flags pass so_far h fault good) fault
          where
            by : (o : Option ℕ) (pass : ℕ)
                → ((flags : Text) (pass : ℕ) (so_far : Outcome) (h : Held)
                → flags_fault s.rules s.args_override_self n flags pass h ≡ [] → Good h.rows
                → Good (bundle_met s.rules n flags pass so_far h).0.rows)
                → bundle_step_fault s.rules s.args_override_self o flags pass h (flags_fault s.rules s.args_override_self n) ≡ []
                → Good (bundle_step s.rules o flags pass so_far h (bundle_met s.rules n)).0.rows
            by None pass later fault = good
            by (Some x) zero later fault =
                let rest = drop (length (encode_utf8 x)) flags in
                short_good (arg_by_short s.rules x) rest h (bundle_met s.rules n rest 0 done)
                (flags_fault s.rules s.args_override_self n rest 0) (λ a e. found _ a e)
                (λ after fault good. later rest 0 done after fault good) fault good
            by (Some x) (suc pass) later fault = later (drop (length (encode_utf8 x)) flags) pass so_far h fault good

        option_word_good : (o : Option Rule) (id word : Text) (h : Held) → Good h.rows → Good (option_word o id word h).0.rows
        option_word_good None id word h good = good
        option_word_good (Some a) id word h good = good

        plain_good : (waiting : Waiting) (word : Text) (h : Held) → Good h.rows → Good (plain_word s.rules waiting word h).0.rows
        plain_good idle word h good = good
        plain_good positional word h good = good
        plain_good (option id) word h good = option_word_good (arg_by_id s.rules id) id word h good

        after_good : (waiting : Waiting) (word : Text) (h : Held) (o : Outcome) → Good h.rows
            → Good (after_flag s.rules waiting word h o).0.rows
        after_good waiting word h done good = good
        after_good waiting word h (waits id) good = good
        after_good waiting word h plain good = plain_good waiting word h good
        after_good waiting word h refused good = plain_good waiting word h good

        short_or_plain_good : (waiting : Waiting) (word : Text) (flags : Option Text) (h : Held)
            → option_map_or (λ flags. bundle_fault s.rules s.args_override_self flags h) flags [] ≡ [] → Good h.rows
            → Good (short_or_plain s.rules waiting word flags h).0.rows
        short_or_plain_good waiting word None h fault good = plain_good waiting word h good
        short_or_plain_good waiting word (Some flags) h fault good =
            after_good waiting word (bundle s.rules flags h).0 (bundle s.rules flags h).1
            (bundle_good (length flags) flags h.skip plain (record h { skip = 0 }) fault good)

        long_or_other_good : (waiting : Waiting) (word : Text) (p : Option (Text × Option Text)) (h : Held)
            → flag_word_fault s.rules s.args_override_self p word h ≡ [] → Good h.rows
            → Good (long_or_other s.rules waiting word p h).0.rows
        long_or_other_good waiting word None h fault good = short_or_plain_good waiting word (short_of word) h fault good
        long_or_other_good waiting word (Some p) h fault good =
            after_good waiting word (long_met s.rules (arg_by_long s.rules p.0) p.1 h).0 (long_met s.rules (arg_by_long s.rules p.0) p.1 h).1
            (long_good (arg_by_long s.rules p.0) p.1 h (λ a e. found _ a e) fault good)

        other_good : (o : Option Text) (waiting : Waiting) (position : ℕ) (word : Text) (h : Held) → other_fault s o word h ≡ []
            → Good h.rows → Good (subcommand_or_other s.rules o waiting position word h).0.rows
        other_good (Some name) waiting position word h fault good = good
        other_good None waiting position word h fault good = by (bytes_eq word (45 ∷ 45 ∷ [])) fault
          where
            by : (x : Bool) → (if x then [] else flag_word_fault s.rules s.args_override_self (long_of word) word h) ≡ []
                → Good (if x then (h, trailing position) else long_or_other s.rules waiting word (long_of word) h).0.rows
            by true fault = good
            by false fault = long_or_other_good waiting word (long_of word) h fault good

        word_good : (names : Names) (is_trailing : Bool) (waiting : Waiting) (position : ℕ) (word : Text) (h : Held)
            → word_fault s names is_trailing waiting word h ≡ [] → Good h.rows
            → Good (word_met s.rules names is_trailing waiting position word h).0.rows
        word_good names true waiting position word h fault good = good
        word_good names false waiting position word h fault good =
            other_good (subcommand_met names waiting word) waiting position word h fault good

        positional_good : (o : Option Rule) (word : Text) (w : Walk) (h : Held)
            → option_map_or (λ a. positional_fault s.rules s.args_override_self a h) o (stray_fault s) ≡ [] → Good h.rows
            → Good (to_positional s.rules o word w h).held.rows
        positional_good None word w h fault good = good
        positional_good (Some a) word w h fault good = by (is_pending a h.pending && takes_several a) fault
          where
            by : (x : Bool) → (if x then [] else settle_fault s.rules s.args_override_self h) ≡ []
                → Good (if x then h else settled s.rules h).rows
            by true fault = good
            by false fault = settle_good h fault good

        step_good : (word : Text) (w : Walk) (h : Held) (it : Step) → step_fault s w.position h it ≡ [] → Good h.rows
            → Good (after_step s.rules word w h it).held.rows
        step_good word w h (next waiting) fault good = good
        step_good word w h (trailing position) fault good = good
        step_good word w h (subcommand name) fault good = good
        step_good word w h value fault good = positional_good (arg_by_index s.rules w.position) word w h fault good

        turn_good : (names : Names) (w : Walk) (word : Text) → turn_fault s names w word ≡ [] → Good w.held.rows
            → Good (walked s.rules names w word).held.rows
        unfolding walked
        turn_good names w word fault good = by w.stopped fault
          where
            by : (o : Option (Text × List Text))
                → (if is_some o then [] else or_else (word_fault s names w.is_trailing w.waiting word w.held)
                (step_fault s w.position (word_met s.rules names w.is_trailing w.waiting w.position word w.held).0
                (word_met s.rules names w.is_trailing w.waiting w.position word w.held).1)) ≡ []
                → Good (walked_from s.rules names o w word).held.rows
            by (Some p) fault = good
            by None fault =
                let parts = or_both _ _ fault in
                step_good word w (word_met s.rules names w.is_trailing w.waiting w.position word w.held).0
                (word_met s.rules names w.is_trailing w.waiting w.position word w.held).1 parts.1
                (word_good names w.is_trailing w.waiting w.position word w.held parts.0 good)

        walk_good : (names : Names) (words : List Text) (w : Walk) → walk_fault s names w words ≡ [] → Good w.held.rows
            → Good (fold (walked s.rules names) w words).held.rows
        unfolding walk_fault
        walk_good names [] w fault good = good
        walk_good names (word ∷ words) w fault good =
            let parts = or_both _ _ fault in
            walk_good names words (walked s.rules names w word) parts.1 (turn_good names w word parts.0 good)

        -- ---- defaults

        module _ (lawful : IsDefault least most b.defaults) where
          with_own : (rows : List Row) → Good rows → Good (with_default rows b)
          with_own rows good = by (has_row b.id rows) refl
            where
              put : (ds : List Text) → IsDefault least most ds → only rows ≡ [] → Good (default_rows b.id (reading_by b) ds rows)
              put [] ok none = good
              put (d ∷ []) ok none =
                  subst (λ (t : Text). Good (with_values t (reading_by b) DefaultValue (d ∷ []) rows)) (sym id_is)
                  (put_one (reading_by b) DefaultValue d rows none self ok)
              put (d ∷ e ∷ ds) ok none = absurd ok

              by : (x : Bool) → has_row b.id rows ≡ x → Good (if x then rows else default_rows b.id (reading_by b) b.defaults rows)
              by true e = good
              by false e = put b.defaults lawful (none_here rows (sym (ap (λ (t : Text). has_row t rows) id_is) ∙ e))

          default_other : (a : Rule) (rows : List Row) → bytes_eq a.id k ≡ false → only (with_default rows a) ≡ only rows
          default_other a rows far = by (has_row a.id rows)
            where
              put : (ds : List Text) → only (default_rows a.id (reading_by a) ds rows) ≡ only rows
              put [] = refl
              put (d ∷ ds) = values_other a.id (reading_by a) DefaultValue (d ∷ ds) rows far

              by : (x : Bool) → only (if x then rows else default_rows a.id (reading_by a) a.defaults rows) ≡ only rows
              by true = refl
              by false = put a.defaults

          default_good : (a : Rule) (rows : List Row) → IsOne k b a → Good rows → Good (with_default rows a)
          default_good a rows one good = by (bytes_eq a.id k) refl
            where
              by : (x : Bool) → bytes_eq a.id k ≡ x → Good (with_default rows a)
              by true e = subst (λ (r : Rule). Good (with_default rows r)) (sym (one e)) (with_own rows good)
              by false e = subst AtMost (sym (default_other a rows e)) good

          defaults_good : (rules : List Rule) (rows : List Row) → Each (IsOne k b) rules → Good rows → Good (fold with_default rows rules)
          defaults_good [] rows ones good = good
          defaults_good (a ∷ rules) rows ones good = defaults_good rules (with_default rows a) ones.1 (default_good a rows ones.0 good)

          -- ---- one is found

          full_kept : (rows : List Row) → Full (only rows) → Full (only (with_default rows b))
          full_kept rows full = by (has_row b.id rows) refl
            where
              by : (x : Bool) → has_row b.id rows ≡ x
                  → Full (only (if x then rows else default_rows b.id (reading_by b) b.defaults rows))
              by true e = full
              by false e = absurd (subst Full (none_here rows (sym (ap (λ (t : Text). has_row t rows) id_is) ∙ e)) full)

          full_own : (rows : List Row) → HasDefault b.defaults → Full (only (with_default rows b))
          full_own rows some = by (has_row b.id rows) refl
            where
              put : (ds : List Text) → HasDefault ds → only rows ≡ [] → Full (only (default_rows b.id (reading_by b) ds rows))
              put [] some none = absurd some
              put (d ∷ ds) some none =
                  subst (λ (t : Text). Full (only (with_values t (reading_by b) DefaultValue (d ∷ ds) rows))) (sym id_is)
                  (subst Full (sym (at_none (more_values DefaultValue (d ∷ ds)) _ rows none ∙ keep _ [] self)) tt)

              by : (x : Bool) → has_row b.id rows ≡ x
                  → Full (only (if x then rows else default_rows b.id (reading_by b) b.defaults rows))
              by true e = some_here rows (sym (ap (λ (t : Text). has_row t rows) id_is) ∙ e)
              by false e = put b.defaults some (none_here rows (sym (ap (λ (t : Text). has_row t rows) id_is) ∙ e))

          full_step : (a : Rule) (rows : List Row) → IsOne k b a → Full (only rows) → Full (only (with_default rows a))
          full_step a rows one full = by (bytes_eq a.id k) refl
            where
              by : (x : Bool) → bytes_eq a.id k ≡ x → Full (only (with_default rows a))
              by true e = subst (λ (r : Rule). Full (only (with_default rows r))) (sym (one e)) (full_kept rows full)
              by false e = subst Full (sym (default_other a rows e)) full

          fulls : (rules : List Rule) (rows : List Row) → Each (IsOne k b) rules → Full (only rows)
              → Full (only (fold with_default rows rules))
          fulls [] rows ones full = full
          fulls (a ∷ rules) rows ones full = fulls rules (with_default rows a) ones.1 (full_step a rows ones.0 full)

          full_default : (rules : List Rule) (rows : List Row) → Each (IsOne k b) rules → HasId rules → HasDefault b.defaults
              → Full (only (fold with_default rows rules))
          full_default [] rows ones has some = absurd has
          full_default (a ∷ rules) rows ones (inl e) some =
              fulls rules (with_default rows a) ones.1
              (subst (λ (r : Rule). Full (only (with_default rows r))) (sym (ones.0 e)) (full_own rows some))
          full_default (a ∷ rules) rows ones (inr has) some = full_default rules (with_default rows a) ones.1 has some

          -- one that is required was given
          wanted : (rows : List Row) (rules : List Rule) → Each (IsOne k b) rules → HasId rules → b.required ≡ true
              → list_any (λ a. a.required && not (is_given a.id rows)) rules ≡ false → is_given k rows ≡ true
          wanted rows [] ones has required none = absurd has
          wanted rows (a ∷ rules) ones has required none =
              by (a.required && not (is_given a.id rows)) refl (λ far none. wanted rows rules ones.1 far required none) none has
            where
              given : (x y : Bool) → x ≡ true → (x && not y) ≡ false → y ≡ true
              given true true e f = refl
              given true false e f = absurd cc
              given false y e f = absurd cc

              by : (x : Bool) → (a.required && not (is_given a.id rows)) ≡ x
                  → (HasId rules → list_any (λ r. r.required && not (is_given r.id rows)) rules ≡ false → is_given k rows ≡ true)
                  → (x || list_any (λ r. r.required && not (is_given r.id rows)) rules) ≡ false → HasId (a ∷ rules)
                  → is_given k rows ≡ true
              by true e later none has = absurd cc
              by false e later none (inl near) =
                  let same : a ≡ b = ones.0 near in
                  let here : (b.required && not (is_given b.id rows)) ≡ false =
                  subst (λ (r : Rule). (r.required && not (is_given r.id rows)) ≡ false) same e in
                  subst (λ (t : Text). is_given t rows ≡ true) id_is (given b.required (is_given b.id rows) required here)
              by false e later none (inr far) = later far none

          third : (x y z : Bool) → check_kinds x y z ≡ [] → z ≡ false
          third true y z e = absurd cc
          third false true z e = absurd cc
          third false false true e = absurd cc
          third false false false e = refl

          full_given : (rows : List Row) → HasId s.rules → b.required ≡ true → s.subcommand_negates_reqs ≡ false
              → check_fault s rows false ≡ [] → Full (only rows)
          full_given rows has required negates fault =
              let last = third _ _ _ fault in
              let none : list_any (λ a. a.required && not (is_given a.id rows)) s.rules ≡ false =
              subst (λ (x : Bool). (not (x && false) && list_any (λ a. a.required && not (is_given a.id rows)) s.rules) ≡ false) negates last in
              given_here rows (wanted rows s.rules ones has required none)

          -- ---- the number

          in_range : (rows : List Row) → AtMost (only rows) → Full (only rows) → (least ≤ number_found k rows) × (number_found k rows ≤ most)
          in_range rows good full =
              subst (λ (o : Option Row). IsIn (number_or_zero (text_or_none (option_and_then (λ r. slice_get r.values 0) o))))
              (sym (first_only rows)) (by (only rows) good full)
            where
              IsIn : ℕ → Type 0
              IsIn n = (least ≤ n) × (n ≤ most)

              reads : (text : Text) → IsUnsignedIn least most text → IsIn (number_or_zero text)
              reads text ok =
                  subst IsIn (number_read text (digits_value 10 (without_leading_plus text)) (ok.0, ok.1) refl) (ok.2, ok.3)

              by : (rs : List Row) → AtMost rs → Full rs
                  → IsIn (number_or_zero (text_or_none (option_and_then (λ r. slice_get r.values 0) (slice_get rs 0))))
              by [] good full = absurd full
              by (r ∷ t ∷ rs) good full = absurd good
              by (r ∷ []) good full =
                  subst (λ (vs : List Text). IsIn (number_or_zero (text_or_none (slice_get vs 0)))) (sym good.is)
                  (reads good.text good.passed)

          -- what is found of a level of words without a fault
          pub number_in : (words : List Text) → level_fault s [] nothing_held words false [] ≡ [] → HasId s.rules
              → HasDefault b.defaults ⊎ ((b.required ≡ true) × (s.subcommand_negates_reqs ≡ false))
              → (least ≤ number_found k (rows_after s.rules [] words)) × (number_found k (rows_after s.rules [] words) ≤ most)
          number_in words fault has how =
              let end = (walk s.rules [] nothing_held words).held in
              let walked_parts = or_both _ _ fault in
              let settled_parts = or_both _ _ walked_parts.1 in
              let last = or_both _ _ settled_parts.1 in
              let walked_rows : Good end.rows = walk_good [] words (walk_from nothing_held) walked_parts.0 tt in
              let settled_rows : Good (settled s.rules end).rows = settle_good end settled_parts.0 walked_rows in
              let all : Good (finished s.rules end) = defaults_good s.rules (settled s.rules end).rows ones settled_rows in
              in_range (finished s.rules end) all (by how last.1)
            where
              by : HasDefault b.defaults ⊎ ((b.required ≡ true) × (s.subcommand_negates_reqs ≡ false))
                  → check_fault s (finished s.rules (walk s.rules [] nothing_held words).held) false ≡ []
                  → Full (only (finished s.rules (walk s.rules [] nothing_held words).held))
              by (inl some) fault =
                  full_default s.rules (settled s.rules (walk s.rules [] nothing_held words).held).rows ones has some
              by (inr given) fault =
                  full_given (finished s.rules (walk s.rules [] nothing_held words).held) has given.0 given.1 fault

-- Where the code stops, what begins with it stops.
use Rattle.std.proofs.Common.{◌≡◌, List, [], ◌∷◌, refl, sym, ap, subst, ◌∙◌}
use Rattle.tl_tree.specs.Tokens.{Token, place_of}
use Rattle.tl_tree.specs.Grammar.{Outcome, Took, Stop, ◌>>=◌, unexpected}
use Rattle.tl_parse.specs.Views.Parsing.{StopsWhere, Fails, Refuses, tokens_left, blame_of, end_of}
use Rattle.tl_base.specs.declared.place.Place.{Place}
use Rattle.tl_parse.specs.declared.error.SyntaxError.{SyntaxError}
use Rattle.tl_parse.specs.declared.error.SyntaxError.TheVariants as errors
use Rattle.tl_parse.specs.declared.parser.Parser.{Parser}

stops_bind : {A B : Type 0} (p : Parser) (o : Outcome A) (f : A → List Token → Outcome B) (e : SyntaxError) → StopsWhere p o e → StopsWhere p (o >>= f) e
stops_bind p o f (errors.Refused why place) h = record { left = h.left; stops = ap (λ (x : Outcome _). x >>= f) h.stops; at = h.at }
stops_bind p o f errors.NoMemory h = tt

pub fails_bind : {A B : Type 0} (p : Parser) (o : Outcome A) (f : A → List Token → Outcome B) (e : SyntaxError) → Fails p o e → Fails p (o >>= f) e
fails_bind p o f e h = record { where_it_does = stops_bind p o f e h.where_it_does }

stops_after : {A B : Type 0} (p q : Parser) (o : Outcome A) (f : A → List Token → Outcome B) (a : A) (mid : List Token) (e : SyntaxError) → o ≡ Took a mid → end_of q ≡ end_of p → StopsWhere q (f a mid) e → StopsWhere p (o >>= f) e
stops_after p q o f a mid (errors.Refused why place) is same h =
    record { left = h.left; stops = ap (λ (x : Outcome _). x >>= f) is ∙ h.stops; at = h.at ∙ ap (λ (x : Place). place_of h.left x) same }
stops_after p q o f a mid errors.NoMemory is same h = tt

-- where the code stops in what comes after
pub fails_after : {A B : Type 0} (p q : Parser) (o : Outcome A) (f : A → List Token → Outcome B) (a : A) (mid : List Token) (e : SyntaxError) → o ≡ Took a mid → end_of q ≡ end_of p → Fails q (f a mid) e → Fails p (o >>= f) e
fails_after p q o f a mid e is same h = record { where_it_does = stops_after p q o f a mid e is same h.where_it_does }

pub fails_from : {A : Type 0} (p q : Parser) (o o' : Outcome A) (e : SyntaxError) → o ≡ o' → end_of q ≡ end_of p → Fails q o' e → Fails p o e
fails_from p q o o' e is same h = record { where_it_does = go e h.where_it_does }
  where
    go : (e : SyntaxError) → StopsWhere q o' e → StopsWhere p o e
    go (errors.Refused why place) k = record { left = k.left; stops = is ∙ k.stops; at = k.at ∙ ap (λ (x : Place). place_of k.left x) same }
    go errors.NoMemory k = tt

-- the same of equal outcomes
pub fails_same : {A : Type 0} (p : Parser) (o o' : Outcome A) (e : SyntaxError) → o ≡ o' → Fails p o' e → Fails p o e
fails_same p o o' e is h = fails_from p p o o' e is refl h

-- where the grammar does not go on with the next token
pub fails_unexpected : {A : Type 0} (p : Parser) (e : SyntaxError) → Refuses p e → Fails {A = A} p (unexpected (tokens_left p)) e
fails_unexpected {A} p e r = subst (λ (x : SyntaxError). Fails {A = A} p (unexpected (tokens_left p)) x) (sym r) (record { where_it_does = record { left = tokens_left p; stops = go (tokens_left p); at = refl } })
  where
    go : (ts : List Token) → unexpected {A = A} ts ≡ Stop (blame_of ts) ts
    go [] = refl
    go (t ∷ ts) = refl

pub ruleset failing = (fails_bind, fails_after)

pub ruleset failing_same = (fails_bind, fails_after, fails_same)

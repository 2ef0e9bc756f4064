-- What the parser has before it, and what its functions read.
use Rattle.std.specs.Prelude.{◌≡◌, Bool, true, false, List, [], ◌∷◌, ◌++◌, map, Option, Some, None}
use Rattle.tl_base.specs.declared.place.Place.{Place}
use Rattle.tl_base.specs.declared.ids.NodeId.{NodeId}
use Rattle.tl_lex.specs.Lexing.{answers_left}
use Rattle.tl_lex.specs.declared.SyntaxKind.{SyntaxKind}
use Rattle.tl_lex.specs.declared.SyntaxKind.TheVariants as why
use Rattle.tl_tree.specs.Symbols.{is_bad}
use Rattle.tl_tree.specs.Tokens.{Token, tokens_in, place_of}
use Rattle.tl_tree.specs.Tree.{Tree}
use Rattle.tl_tree.specs.Item.{Item}
use Rattle.tl_tree.specs.Nodes.{item_of, added, last_of, if_any}
use Rattle.tl_tree.specs.Grammar.{Outcome, Took, Stop, blame}
use Rattle.tl_tree.specs.Forms.{Chained, chained}
use Rattle.tl_tree.specs.declared.node.Node.{Node}
use Rattle.tl_parse.specs.declared.error.SyntaxError.{SyntaxError}
use Rattle.tl_parse.specs.declared.error.SyntaxError.TheVariants as errors
use Rattle.tl_parse.specs.declared.parser.Parser.{Parser}
use Rattle.tl_parse.specs.declared.parser.Next as code
use Rattle.tl_parse.specs.declared.parser.Operand as operands

-- a token of the code, without where its bytes lie in memory
abbrev pub token_of : code.Next → Token
token_of t =
    record { symbol = t.symbol; text = t.text.now; place = t.place; offset = t.offset; first_on_line = t.first_on_line }

-- a token that breaks a rule of tokens is the last
abbrev pub unless_bad : Bool → Token → List Token → List Token
unless_bad true t ts = t ∷ []
unless_bad false t ts = t ∷ ts

-- the end is no token of the grammar
abbrev pub with_token_by : Bool → Bool → Token → List Token → List Token
with_token_by true bad t ts = []
with_token_by false bad t ts = unless_bad bad t ts

abbrev pub with_token : Bool → Token → List Token → List Token
with_token is_end t ts = with_token_by is_end (is_bad t.symbol) t ts

-- the tokens before the parser
unfoldable pub tokens_left : Parser → List Token
tokens_left p = with_token p.current.is_end (token_of p.current) (tokens_in (answers_left p.lexer)).tokens

-- where the text ends
unfoldable pub end_of : Parser → Place
end_of p = (tokens_in (answers_left p.lexer)).finish

-- the nodes that it made
unfoldable pub items_of : Parser → List Item
items_of p = map item_of p.nodes.items

-- the refusal of the next token, where the grammar does not go on with it
abbrev pub blame_of : List Token → SyntaxKind
blame_of [] = why.Unexpected
blame_of (t ∷ ts) = blame t.symbol

abbrev pub Refuses : Parser → SyntaxError → Type 0
Refuses p e = e ≡ errors.Refused (blame_of (tokens_left p)) (place_of (tokens_left p) (end_of p))

-- one more node
pub record Pushed (old new : Parser) (node : Node) (number : NodeId) : Type 0 where
  pub rest : tokens_left new ≡ tokens_left old
  pub finish : end_of new ≡ end_of old
  pub items : items_of new ≡ items_of old ++ item_of node ∷ []
  pub is_last : number ≡ last_of (items_of new)

-- there is a next token, and it breaks no rule of tokens
abbrev pub HasNext : List Token → Type 0
HasNext [] = ⊥
HasNext (t ∷ ts) = is_bad t.symbol ≡ false

-- the code stopped where the outcome does
pub record Stops {A : Type 0} (p : Parser) (o : Outcome A) (kind : SyntaxKind) (place : Place) : Type 0 where
  pub left : List Token
  pub stops : o ≡ Stop kind left
  pub at : place ≡ place_of left (end_of p)

abbrev pub StopsWhere : {A : Type 0} → Parser → Outcome A → SyntaxError → Type 0
StopsWhere p o (errors.Refused kind place) = Stops p o kind place
StopsWhere p o errors.NoMemory = Unit {0}

pub record Fails {A : Type 0} (p : Parser) (o : Outcome A) (e : SyntaxError) : Type 0 where
  pub where_it_does : StopsWhere p o e

-- the code took a token where the outcome does
pub record TookToken (old new : Parser) (o : Outcome Token) (t : code.Next) : Type 0 where
  pub took : o ≡ Took (token_of t) (tokens_left new)
  pub finish : end_of new ≡ end_of old
  pub items : items_of new ≡ items_of old

-- a token at this place, with all else that another has
abbrev pub placed : Token → Place → Token
placed t place =
    record { symbol = t.symbol; text = t.text; place = place; offset = t.offset; first_on_line = t.first_on_line }

-- the code took a token at this place where the outcome does
pub record TookPlace (old new : Parser) (o : Outcome Token) (place : Place) : Type 0 where
  pub token : Token
  pub took : o ≡ Took (placed token place) (tokens_left new)
  pub finish : end_of new ≡ end_of old
  pub items : items_of new ≡ items_of old

-- the code took a token where the outcome does, and added a node
pub record Closed (old new : Parser) (o : Outcome Token) (node : Node) (number : NodeId) : Type 0 where
  pub token : Token
  pub took : o ≡ Took token (tokens_left new)
  pub finish : end_of new ≡ end_of old
  pub items : items_of new ≡ items_of old ++ item_of node ∷ []
  pub is_last : number ≡ last_of (items_of new)

-- the code made the nodes of the tree that the outcome has
pub record TookTree (old new : Parser) (o : Outcome Tree) (number : NodeId) : Type 0 where
  pub tree : Tree
  pub took : o ≡ Took tree (tokens_left new)
  pub finish : end_of new ≡ end_of old
  pub items : items_of new ≡ (added tree (items_of old)).items
  pub is_last : number ≡ last_of (items_of new)

-- the same of an operand or of a prefix expression, with how many more tokens may continue its chain
pub record TookOperand (old new : Parser) (o : Outcome Chained) (r : operands.Operand) : Type 0 where
  pub tree : Tree
  pub took : o ≡ Took (chained tree r.links r.kind) (tokens_left new)
  pub finish : end_of new ≡ end_of old
  pub items : items_of new ≡ (added tree (items_of old)).items
  pub is_last : r.node ≡ last_of (items_of new)

-- the same of a list
pub record TookList (old new : Parser) (o : Outcome Tree) (numbers : List NodeId) : Type 0 where
  pub tree : Tree
  pub took : o ≡ Took tree (tokens_left new)
  pub finish : end_of new ≡ end_of old
  pub items : items_of new ≡ (added tree (items_of old)).items
  pub list : numbers ≡ (added tree (items_of old)).numbers

-- the same of a tree where there may be none
pub record TookOption (old new : Parser) (o : Outcome Tree) (number : Option NodeId) : Type 0 where
  pub tree : Tree
  pub took : o ≡ Took tree (tokens_left new)
  pub finish : end_of new ≡ end_of old
  pub items : items_of new ≡ (added tree (items_of old)).items
  pub is_any : number ≡ if_any (added tree (items_of old))

-- nothing is read but tokens
pub record TookNone (old new : Parser) (o : Outcome (Option Tree)) : Type 0 where
  pub took : o ≡ Took None (tokens_left new)
  pub finish : end_of new ≡ end_of old
  pub items : items_of new ≡ items_of old

pub record TookSome (old new : Parser) (o : Outcome (Option Tree)) (number : NodeId) : Type 0 where
  pub tree : Tree
  pub took : o ≡ Took (Some tree) (tokens_left new)
  pub finish : end_of new ≡ end_of old
  pub items : items_of new ≡ (added tree (items_of old)).items
  pub is_last : number ≡ last_of (items_of new)

-- a tree, or none
abbrev pub TookMaybe : Parser → Parser → Outcome (Option Tree) → Option NodeId → Type 0
TookMaybe old new o None = TookNone old new o
TookMaybe old new o (Some number) = TookSome old new o number

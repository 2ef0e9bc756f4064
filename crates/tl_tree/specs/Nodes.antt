-- The nodes of a tree in the order of the text: those of its children one after the other, and then its own. A node's
-- number is its place among them, so a node's children have smaller numbers.
use Rattle.std.specs.Prelude.{pred, List, [], ◌∷◌, ◌++◌, length, get_or, Option, Some, None}
use Rattle.tl_base.specs.declared.ids.NodeId.{NodeId}
use Rattle.tl_tree.specs.declared.node.Expression.TheVariants as expressions
use Rattle.tl_tree.specs.declared.node.Statement.TheVariants as statements
use Rattle.tl_tree.specs.declared.node.TerraExpression.TheVariants as terra_expressions
use Rattle.tl_tree.specs.declared.node.TerraStatement.TheVariants as terra_statements
use Rattle.tl_tree.specs.declared.node.Piece.TheVariants as pieces
use Rattle.tl_tree.specs.declared.node.Node as code
use Rattle.tl_tree.specs.declared.node.Node.TheVariants as nodes
use Rattle.tl_tree.specs.Item.{Item}
use Rattle.tl_tree.specs.Item as kept
use Rattle.tl_tree.specs.Tree.{Tree, Nothing, More, Just, Name, Numeral, Literal, Nil, False, True, Varargs, Function}
use Rattle.tl_tree.specs.Tree.{Table, Binary, Unary, Paren, Index, Select, Call, Method, TerraFunction, Struct, Quote}
use Rattle.tl_tree.specs.Tree.{Backtick, Assign, CallStatement, Do, While, Repeat, If, NumericFor, GenericFor}
use Rattle.tl_tree.specs.Tree.{DefineFunction}
use Rattle.tl_tree.specs.Tree.{LocalFunction, Local, DefineTerra, DeclareTerra, LocalTerra, LocalDeclareTerra}
use Rattle.tl_tree.specs.Tree.{DefineStruct, LocalStruct, Emit, Return, Break, TerraNil, TerraFalse, TerraTrue}
use Rattle.tl_tree.specs.Tree.{TerraBinary, TerraUnary, TerraParen, Escape, TerraIndex, TerraSelect, TerraCall}
use Rattle.tl_tree.specs.Tree.{TerraMethod, Construct, TerraAssign, TerraCallStatement, Splice, TerraDo, TerraWhile}
use Rattle.tl_tree.specs.Tree.{TerraRepeat, TerraIf, TerraFor, Var, EscapeBlock, TerraReturn, TerraBreak, Block, Arm}
use Rattle.tl_tree.specs.Tree.{Body, Path, NamedField, KeyedField, Entry, Quoted, TerraBody, Parameter, SpliceParameter}
use Rattle.tl_tree.specs.Tree.{Variable}

-- what the code keeps of a node, without where its text lies in memory
abbrev pub item_of : code.Node → Item
item_of (nodes.Name place offset text) = kept.Name place offset text.now
item_of (nodes.Numeral place text) = kept.Numeral place text.now
item_of (nodes.Literal place text) = kept.Literal place text.now
item_of (nodes.Expression place e) = kept.Expression place e
item_of (nodes.Statement place s) = kept.Statement place s
item_of (nodes.TerraExpression place e) = kept.TerraExpression place e
item_of (nodes.TerraStatement place s) = kept.TerraStatement place s
item_of (nodes.Piece p) = kept.Piece p

-- The nodes so far, and the numbers of the trees of a list: of each the last of its nodes.
pub record Laid : Type 0 where
  pub items : List Item
  pub numbers : List NodeId

abbrev pub last_of : List Item → NodeId
last_of items = record { 0 = pred (length items) }

-- the number of a tree
abbrev pub last : Laid → NodeId
last x = last_of x.items

-- the number of a tree where there may be none
abbrev first_if_any : List NodeId → Option NodeId
first_if_any [] = None
first_if_any (n ∷ more) = Some n

abbrev pub if_any : Laid → Option NodeId
if_any x = first_if_any x.numbers

-- one more node, which is no list
abbrev pub node : List Item → Item → Laid
node items item = record { items = items ++ item ∷ []; numbers = [] }

abbrev pub added : Tree → List Item → Laid
added Nothing items = record { items = items; numbers = [] }
added (More before next) items =
    let x = added before items in let y = added next x.items in
    record { items = y.items; numbers = x.numbers ++ last y ∷ [] }
added (Just a) items = let x = added a items in record { items = x.items; numbers = last x ∷ [] }
added (Name place offset text) items = node items (kept.Name place offset text)
added (Numeral place text) items = node items (kept.Numeral place text)
added (Literal place text) items = node items (kept.Literal place text)
-- expressions of Lua code
added (Nil place) items = node items (kept.Expression place expressions.Nil)
added (False place) items = node items (kept.Expression place expressions.False)
added (True place) items = node items (kept.Expression place expressions.True)
added (Varargs place) items = node items (kept.Expression place expressions.Varargs)
added (Function place a) items =
    let x = added a items in node x.items (kept.Expression place (expressions.Function (last x)))
added (Table place a) items =
    let x = added a items in node x.items (kept.Expression place (expressions.Table x.numbers))
added (Binary place op a b) items =
    let x = added a items in let y = added b x.items in
    node y.items (kept.Expression place (expressions.Binary op (last x) (last y)))
added (Unary place op a) items =
    let x = added a items in node x.items (kept.Expression place (expressions.Unary op (last x)))
added (Paren place a) items =
    let x = added a items in node x.items (kept.Expression place (expressions.Paren (last x)))
added (Index place a b) items =
    let x = added a items in let y = added b x.items in
    node y.items (kept.Expression place (expressions.Index (last x) (last y)))
added (Select place a b) items =
    let x = added a items in let y = added b x.items in
    node y.items (kept.Expression place (expressions.Select (last x) (last y)))
added (Call place a b) items =
    let x = added a items in let y = added b x.items in
    node y.items (kept.Expression place (expressions.Call (last x) y.numbers))
added (Method place a b c) items =
    let x = added a items in let y = added b x.items in let z = added c y.items in
    node z.items (kept.Expression place (expressions.Method (last x) (last y) z.numbers))
added (TerraFunction place a) items =
    let x = added a items in node x.items (kept.Expression place (expressions.Terra (last x)))
added (Struct place a) items =
    let x = added a items in node x.items (kept.Expression place (expressions.Struct x.numbers))
added (Quote place a) items =
    let x = added a items in node x.items (kept.Expression place (expressions.Quote (last x)))
added (Backtick place a) items =
    let x = added a items in node x.items (kept.Expression place (expressions.Backtick (last x)))
-- statements of Lua code
added (Assign place a b) items =
    let x = added a items in let y = added b x.items in
    node y.items (kept.Statement place (statements.Assign x.numbers y.numbers))
added (CallStatement place a) items =
    let x = added a items in node x.items (kept.Statement place (statements.Call (last x)))
added (Do place a) items = let x = added a items in node x.items (kept.Statement place (statements.Do (last x)))
added (While place a b) items =
    let x = added a items in let y = added b x.items in
    node y.items (kept.Statement place (statements.While (last x) (last y)))
added (Repeat place a b) items =
    let x = added a items in let y = added b x.items in
    node y.items (kept.Statement place (statements.Repeat (last x) (last y)))
added (If place a b) items =
    let x = added a items in let y = added b x.items in
    node y.items (kept.Statement place (statements.If x.numbers (if_any y)))
added (NumericFor place a b c d e) items =
    let x = added a items in let y = added b x.items in let z = added c y.items in let u = added d z.items in let v =
    added e u.items in node v.items
    (kept.Statement place (statements.NumericFor (last x) (last y) (last z) (if_any u) (last v)))
added (GenericFor place a b c) items =
    let x = added a items in let y = added b x.items in let z = added c y.items in
    node z.items (kept.Statement place (statements.GenericFor x.numbers y.numbers (last z)))
added (DefineFunction place a b) items =
    let x = added a items in let y = added b x.items in
    node y.items (kept.Statement place (statements.Function (last x) (last y)))
added (LocalFunction place a b) items =
    let x = added a items in let y = added b x.items in
    node y.items (kept.Statement place (statements.LocalFunction (last x) (last y)))
added (Local place a b) items =
    let x = added a items in let y = added b x.items in
    node y.items (kept.Statement place (statements.Local x.numbers y.numbers))
added (DefineTerra place a b) items =
    let x = added a items in let y = added b x.items in
    node y.items (kept.Statement place (statements.Terra (last x) (last y)))
added (DeclareTerra place a b) items =
    let x = added a items in let y = added b x.items in
    node y.items (kept.Statement place (statements.DeclareTerra (last x) (last y)))
added (LocalTerra place word a b) items =
    let x = added a items in let y = added b x.items in
    node y.items (kept.Statement place (statements.LocalTerra word (last x) (last y)))
added (LocalDeclareTerra place word a b) items =
    let x = added a items in let y = added b x.items in
    node y.items (kept.Statement place (statements.LocalDeclareTerra word (last x) (last y)))
added (DefineStruct place a b) items =
    let x = added a items in let y = added b x.items in
    node y.items (kept.Statement place (statements.Struct (last x) y.numbers))
added (LocalStruct place word a b) items =
    let x = added a items in let y = added b x.items in
    node y.items (kept.Statement place (statements.LocalStruct word (last x) y.numbers))
added (Emit place a) items = let x = added a items in node x.items (kept.Statement place (statements.Emit (last x)))
added (Return place a) items =
    let x = added a items in node x.items (kept.Statement place (statements.Return x.numbers))
added (Break place) items = node items (kept.Statement place statements.Break)
-- expressions of Terra code
added (TerraNil place) items = node items (kept.TerraExpression place terra_expressions.Nil)
added (TerraFalse place) items = node items (kept.TerraExpression place terra_expressions.False)
added (TerraTrue place) items = node items (kept.TerraExpression place terra_expressions.True)
added (TerraBinary place op a b) items =
    let x = added a items in let y = added b x.items in
    node y.items (kept.TerraExpression place (terra_expressions.Binary op (last x) (last y)))
added (TerraUnary place op a) items =
    let x = added a items in node x.items (kept.TerraExpression place (terra_expressions.Unary op (last x)))
added (TerraParen place a) items =
    let x = added a items in node x.items (kept.TerraExpression place (terra_expressions.Paren (last x)))
added (Escape place a) items =
    let x = added a items in node x.items (kept.TerraExpression place (terra_expressions.Escape (last x)))
added (TerraIndex place a b) items =
    let x = added a items in let y = added b x.items in
    node y.items (kept.TerraExpression place (terra_expressions.Index (last x) (last y)))
added (TerraSelect place a b) items =
    let x = added a items in let y = added b x.items in
    node y.items (kept.TerraExpression place (terra_expressions.Select (last x) (last y)))
added (TerraCall place a b) items =
    let x = added a items in let y = added b x.items in
    node y.items (kept.TerraExpression place (terra_expressions.Call (last x) y.numbers))
added (TerraMethod place a b c) items =
    let x = added a items in let y = added b x.items in let z = added c y.items in
    node z.items (kept.TerraExpression place (terra_expressions.Method (last x) (last y) z.numbers))
added (Construct place a b) items =
    let x = added a items in let y = added b x.items in
    node y.items (kept.TerraExpression place (terra_expressions.Construct (last x) y.numbers))
-- statements of Terra code
added (TerraAssign place a b) items =
    let x = added a items in let y = added b x.items in
    node y.items (kept.TerraStatement place (terra_statements.Assign x.numbers y.numbers))
added (TerraCallStatement place a) items =
    let x = added a items in node x.items (kept.TerraStatement place (terra_statements.Call (last x)))
added (Splice place a) items =
    let x = added a items in node x.items (kept.TerraStatement place (terra_statements.Splice (last x)))
added (TerraDo place a) items =
    let x = added a items in node x.items (kept.TerraStatement place (terra_statements.Do (last x)))
added (TerraWhile place a b) items =
    let x = added a items in let y = added b x.items in
    node y.items (kept.TerraStatement place (terra_statements.While (last x) (last y)))
added (TerraRepeat place a b) items =
    let x = added a items in let y = added b x.items in
    node y.items (kept.TerraStatement place (terra_statements.Repeat (last x) (last y)))
added (TerraIf place a b) items =
    let x = added a items in let y = added b x.items in
    node y.items (kept.TerraStatement place (terra_statements.If x.numbers (if_any y)))
added (TerraFor place a b c d e) items =
    let x = added a items in let y = added b x.items in let z = added c y.items in let u = added d z.items in let v =
    added e u.items in node v.items
    (kept.TerraStatement place (terra_statements.For (last x) (last y) (last z) (if_any u) (last v)))
added (Var place a b) items =
    let x = added a items in let y = added b x.items in
    node y.items (kept.TerraStatement place (terra_statements.Var x.numbers y.numbers))
added (EscapeBlock place a) items =
    let x = added a items in node x.items (kept.TerraStatement place (terra_statements.Escape (last x)))
added (TerraReturn place a) items =
    let x = added a items in node x.items (kept.TerraStatement place (terra_statements.Return x.numbers))
added (TerraBreak place) items = node items (kept.TerraStatement place terra_statements.Break)
-- what is within these
added (Block a) items = let x = added a items in node x.items (kept.Piece (pieces.Block x.numbers))
added (Arm a b) items =
    let x = added a items in let y = added b x.items in node y.items (kept.Piece (pieces.Arm (last x) (last y)))
added (Body a flag b) items =
    let x = added a items in let y = added b x.items in node y.items (kept.Piece (pieces.Body x.numbers flag (last y)))
added (Path a b) items =
    let x = added a items in let y = added b x.items in node y.items (kept.Piece (pieces.Path x.numbers (if_any y)))
added (NamedField a b) items =
    let x = added a items in let y = added b x.items in node y.items (kept.Piece (pieces.NamedField (last x) (last y)))
added (KeyedField a b) items =
    let x = added a items in let y = added b x.items in node y.items (kept.Piece (pieces.KeyedField (last x) (last y)))
added (Entry a b) items =
    let x = added a items in let y = added b x.items in node y.items (kept.Piece (pieces.Entry (last x) (last y)))
added (Quoted a b) items =
    let x = added a items in let y = added b x.items in node y.items (kept.Piece (pieces.Quoted (last x) (if_any y)))
added (TerraBody place a b c) items =
    let x = added a items in let y = added b x.items in let z = added c y.items in
    node z.items (kept.Piece (pieces.TerraBody place x.numbers (if_any y) (last z)))
added (Parameter place a b) items =
    let x = added a items in let y = added b x.items in
    node y.items (kept.Piece (pieces.Parameter place (last x) (last y)))
added (SpliceParameter place a) items = let x = added a items in
    node x.items (kept.Piece (pieces.SpliceParameter place (last x)))
added (Variable place a b) items =
    let x = added a items in let y = added b x.items in
    node y.items (kept.Piece (pieces.Variable place (last x) (if_any y)))

-- the nodes so far, with those of a tree behind them
abbrev pub lay : Tree → List Item → List Item
lay tree items = (added tree items).items

-- the numbers of the trees of a list
abbrev pub numbers : Tree → List Item → List NodeId
numbers tree items = (added tree items).numbers

-- what stands for nodes that a tree has not
abbrev pub absent_item : Item
absent_item = kept.Expression (record { line = 0; word = 0 }) expressions.Nil

-- the node with this number
abbrev pub item_at : List Item → NodeId → Item
item_at items n = get_or items n.0 absent_item

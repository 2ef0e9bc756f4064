-- How many nodes of the language a tree has: each use of a statement, an expression, a Terra function's body and
-- parameter, and a variable that `var` declares is one; so is each expression within another one, each target of an
-- assignment, and the first name of a path that is not local. Other names, blocks and lists are none, and an escape
-- that stands for a name or a statement is none beside its Lua code and that statement.
use Rattle.std.specs.Prelude.{ℕ, ◌+◌, ◌-◌}
use Rattle.tl_tree.specs.Tree as t
use Rattle.tl_tree.specs.Tree.{Tree}

abbrev pub nodes_of : Tree → ℕ
nodes_of t.Nothing = 0
nodes_of (t.More before next) = nodes_of before + nodes_of next
nodes_of (t.Just a) = nodes_of a
nodes_of (t.Name place offset text) = 1
nodes_of (t.Numeral place text) = 1
nodes_of (t.Literal place text) = 1
-- expressions of Lua code
nodes_of (t.Nil place) = 1
nodes_of (t.False place) = 1
nodes_of (t.True place) = 1
nodes_of (t.Varargs place) = 1
nodes_of (t.Function place body) = 1 + nodes_of body
nodes_of (t.Table place fields) = 1 + nodes_of fields
nodes_of (t.Binary place op a b) = 1 + nodes_of a + nodes_of b
nodes_of (t.Unary place op a) = 1 + nodes_of a
nodes_of (t.Paren place a) = 1 + nodes_of a
nodes_of (t.Index place a key) = 1 + nodes_of a + nodes_of key
nodes_of (t.Select place a name) = 1 + nodes_of a
nodes_of (t.Call place a arguments) = 1 + nodes_of a + nodes_of arguments
nodes_of (t.Method place a name arguments) = 1 + nodes_of a + nodes_of arguments
nodes_of (t.TerraFunction place body) = 1 + nodes_of body
nodes_of (t.Struct place entries) = 1 + nodes_of entries
nodes_of (t.Quote place quoted) = 1 + nodes_of quoted
nodes_of (t.Backtick place e) = 1 + nodes_of e
-- statements of Lua code
nodes_of (t.Assign place targets es) = 1 + nodes_of targets + nodes_of es
nodes_of (t.CallStatement place call) = 1 + nodes_of call
nodes_of (t.Do place block) = 1 + nodes_of block
nodes_of (t.While place e block) = 1 + nodes_of e + nodes_of block
nodes_of (t.Repeat place block e) = 1 + nodes_of block + nodes_of e
nodes_of (t.If place arms otherwise) = 1 + nodes_of arms + nodes_of otherwise
nodes_of (t.NumericFor place name a b step block) = 1 + nodes_of a + nodes_of b + nodes_of step + nodes_of block
nodes_of (t.GenericFor place names es block) = 1 + nodes_of es + nodes_of block
nodes_of (t.DefineFunction place path body) = 1 + nodes_of path + nodes_of body
nodes_of (t.LocalFunction place name body) = 1 + nodes_of body
nodes_of (t.Local place names es) = 1 + nodes_of es
nodes_of (t.DefineTerra place path body) = 1 + nodes_of path + nodes_of body
nodes_of (t.DeclareTerra place path e) = 1 + nodes_of path + nodes_of e
nodes_of (t.LocalTerra place word name body) = 1 + nodes_of body
nodes_of (t.LocalDeclareTerra place word name e) = 1 + nodes_of e
nodes_of (t.DefineStruct place path entries) = 1 + nodes_of path + nodes_of entries
nodes_of (t.LocalStruct place word name entries) = 1 + nodes_of entries
nodes_of (t.Emit place e) = 1 + nodes_of e
nodes_of (t.Return place es) = 1 + nodes_of es
nodes_of (t.Break place) = 1
-- expressions of Terra code
nodes_of (t.TerraNil place) = 1
nodes_of (t.TerraFalse place) = 1
nodes_of (t.TerraTrue place) = 1
nodes_of (t.TerraBinary place op a b) = 1 + nodes_of a + nodes_of b
nodes_of (t.TerraUnary place op a) = 1 + nodes_of a
nodes_of (t.TerraParen place a) = 1 + nodes_of a
nodes_of (t.Escape place e) = 1 + nodes_of e
nodes_of (t.TerraIndex place a key) = 1 + nodes_of a + nodes_of key
nodes_of (t.TerraSelect place a name) = 1 + nodes_of a + (nodes_of name - 1)
nodes_of (t.TerraCall place a arguments) = 1 + nodes_of a + nodes_of arguments
nodes_of (t.TerraMethod place a name arguments) = 1 + nodes_of a + (nodes_of name - 1) + nodes_of arguments
nodes_of (t.Construct place a initialisers) = 1 + nodes_of a + nodes_of initialisers
-- statements of Terra code
nodes_of (t.TerraAssign place targets es) = 1 + nodes_of targets + nodes_of es
nodes_of (t.TerraCallStatement place call) = 1 + nodes_of call
nodes_of (t.Splice place escape) = nodes_of escape
nodes_of (t.TerraDo place block) = 1 + nodes_of block
nodes_of (t.TerraWhile place e block) = 1 + nodes_of e + nodes_of block
nodes_of (t.TerraRepeat place block e) = 1 + nodes_of block + nodes_of e
nodes_of (t.TerraIf place arms otherwise) = 1 + nodes_of arms + nodes_of otherwise
nodes_of (t.TerraFor place name a b step block) =
    1 + (nodes_of name - 1) + nodes_of a + nodes_of b + nodes_of step + nodes_of block
nodes_of (t.Var place variables es) = 1 + nodes_of variables + nodes_of es
nodes_of (t.EscapeBlock place block) = 1 + nodes_of block
nodes_of (t.TerraReturn place es) = 1 + nodes_of es
nodes_of (t.TerraBreak place) = 1
-- what is within these
nodes_of (t.Block statements) = nodes_of statements
nodes_of (t.Arm e block) = nodes_of e + nodes_of block
nodes_of (t.Body names variadic block) = nodes_of block
nodes_of (t.Path names method) = 1
nodes_of (t.NamedField name value) = nodes_of value
nodes_of (t.KeyedField key value) = nodes_of key + nodes_of value
nodes_of (t.Entry name type) = nodes_of type
nodes_of (t.Quoted block value) = nodes_of block + nodes_of value
nodes_of (t.TerraBody place parameters result block) = 1 + nodes_of parameters + nodes_of result + nodes_of block
nodes_of (t.Parameter place name type) = 1 + nodes_of type
nodes_of (t.SpliceParameter place escape) = nodes_of escape
nodes_of (t.Variable place name type) = 1 + (nodes_of name - 1) + nodes_of type

use Rattle.std.proofs.Common.{◌+◌, ◌*◌, List, length}
use Rattle.tl_tree.specs.declared.symbol.Symbol.TheVariants as symbols
use Rattle.tl_tree.specs.Tokens.{Token}
use Rattle.tl_tree.specs.Tree.{Tree, Fields, Assign, GenericFor, Initialisers, Entries}
use Rattle.tl_tree.specs.Grammar.{Took, ◌>>=◌}
use Rattle.tl_parse.specs.Views.Parsing.{tokens_left}
use Rattle.tl_parse.specs.Views.Using.{part_at}
use Rattle.tl_parse.specs.Views.Expressions.{applied_at, binary_at, more_fields_at}
use Rattle.tl_parse.specs.declared.parser.Code.TheVariants as codes
use Rattle.tl_parse.specs.declared.parser.Element.TheVariants as elements
use Rattle.tl_parse.specs.Views.Going.{Binding, Applying, Listing, Sequencing}
use Rattle.tl_parse.specs.Views.Statements.{first_place, call_or_assignment_at, arms_at, more_arms_at, for_at, generic_at}
use Rattle.tl_parse.specs.Views.Paths.{more_names_at}
use Rattle.tl_parse.specs.Views.TerraExpressions.{terra_binary_at, terra_applied_at}
use Rattle.tl_parse.specs.Views.TerraExpressions.{more_initialisers_at}
use Rattle.tl_parse.specs.Views.Entries.{more_entries_at}
use Rattle.tl_parse.specs.Views.TerraGoing.{TerraBinding, TerraApplying, terra_rank_of}
use Rattle.tl_parse.specs.Views.Lists.{elements_at, more_elements_at, expressions_behind_at}
use Rattle.tl_parse.specs.Views.TerraStatements.{terra_simple_statement_at, terra_assignment_at}
use Rattle.tl_parse.specs.Views.Codes.{statements_in}
use Rattle.tl_parse.proofs.parser.Parser.+parser.Given as goal

abbrev pub decreases-applied : goal.decreases-applied
decreases-applied l = 64 * l.levels + 13

abbrev pub decreases-arguments : goal.decreases-arguments
decreases-arguments l = 64 * l.levels + 45

abbrev pub decreases-arm : goal.decreases-arm
decreases-arm l = 64 * l.levels + 37

abbrev pub decreases-arms : goal.decreases-arms
decreases-arms l = 64 * l.levels + 39

abbrev pub decreases-base : goal.decreases-base
decreases-base l = 64 * l.levels + 9

abbrev pub decreases-block : goal.decreases-block
decreases-block l = 64 * l.levels + 51

abbrev pub decreases-call_or_assignment : goal.decreases-call_or_assignment
decreases-call_or_assignment l = 64 * l.levels + 46

abbrev pub decreases-call_suffix : goal.decreases-call_suffix
decreases-call_suffix l = 64 * l.levels + 10

abbrev pub decreases-chained : goal.decreases-chained
decreases-chained l = 64 * l.levels + 34

abbrev pub decreases-concatenated : goal.decreases-concatenated
decreases-concatenated l = 64 * l.levels + 25

abbrev pub decreases-do_statement : goal.decreases-do_statement
decreases-do_statement l = 64 * l.levels + 10

abbrev pub decreases-emit_statement : goal.decreases-emit_statement
decreases-emit_statement l = 64 * l.levels + 36

abbrev pub decreases-expression : goal.decreases-expression
decreases-expression l = 64 * l.levels + 35

abbrev pub decreases-field : goal.decreases-field
decreases-field l = 64 * l.levels + 39

abbrev pub decreases-fields : goal.decreases-fields
decreases-fields l = 64 * l.levels + 41

abbrev pub decreases-for_statement : goal.decreases-for_statement
decreases-for_statement l = 64 * l.levels + 47

abbrev pub decreases-function : goal.decreases-function
decreases-function l = 64 * l.levels + 10

abbrev pub decreases-function_body : goal.decreases-function_body
decreases-function_body l = 64 * l.levels + 9

abbrev pub decreases-function_statement : goal.decreases-function_statement
decreases-function_statement l = 64 * l.levels + 10

abbrev pub decreases-generic : goal.decreases-generic
decreases-generic l = 64 * l.levels + 46

abbrev pub decreases-if_statement : goal.decreases-if_statement
decreases-if_statement l = 64 * l.levels + 40

abbrev pub decreases-index_suffix : goal.decreases-index_suffix
decreases-index_suffix l = 64 * l.levels + 10

abbrev pub decreases-initial_values : goal.decreases-initial_values
decreases-initial_values l = 64 * l.levels + 46

abbrev pub decreases-keyed_field : goal.decreases-keyed_field
decreases-keyed_field l = 64 * l.levels + 38

abbrev pub decreases-local_function : goal.decreases-local_function
decreases-local_function l = 64 * l.levels + 10

abbrev pub decreases-local_names : goal.decreases-local_names
decreases-local_names l = 64 * l.levels + 47

abbrev pub decreases-local_statement : goal.decreases-local_statement
decreases-local_statement l = 64 * l.levels + 48

abbrev pub decreases-loop_block : goal.decreases-loop_block
decreases-loop_block l = 64 * l.levels + 10

abbrev pub decreases-listed_arguments : goal.decreases-listed_arguments
decreases-listed_arguments l = 64 * l.levels + 9

abbrev pub decreases-method_arguments : goal.decreases-method_arguments
decreases-method_arguments l = 64 * l.levels + 10

abbrev pub decreases-method_suffix : goal.decreases-method_suffix
decreases-method_suffix l = 64 * l.levels + 11

abbrev pub decreases-next_arm : goal.decreases-next_arm
decreases-next_arm l = 64 * l.levels + 38

abbrev pub decreases-next_field : goal.decreases-next_field
decreases-next_field l = 64 * l.levels + 40

abbrev pub decreases-next_statement : goal.decreases-next_statement
decreases-next_statement l = 64 * l.levels + 50

abbrev pub decreases-numeric : goal.decreases-numeric
decreases-numeric l = 64 * l.levels + 39

abbrev pub decreases-operand : goal.decreases-operand
decreases-operand l = 64 * l.levels + 18

abbrev pub decreases-otherwise : goal.decreases-otherwise
decreases-otherwise l = 64 * l.levels + 10

abbrev pub decreases-paren : goal.decreases-paren
decreases-paren l = 64 * l.levels + 8

abbrev pub decreases-power : goal.decreases-power
decreases-power l = 64 * l.levels + 16

abbrev pub decreases-prefixed : goal.decreases-prefixed
decreases-prefixed l = 64 * l.levels + 14

abbrev pub decreases-primary : goal.decreases-primary
decreases-primary l = 64 * l.levels + 15

abbrev pub decreases-repeat_statement : goal.decreases-repeat_statement
decreases-repeat_statement l = 64 * l.levels + 38

abbrev pub decreases-return_statement : goal.decreases-return_statement
decreases-return_statement l = 64 * l.levels + 46

abbrev pub decreases-returned_values : goal.decreases-returned_values
decreases-returned_values l = 64 * l.levels + 45

abbrev pub decreases-simple : goal.decreases-simple
decreases-simple l = 64 * l.levels + 12

abbrev pub decreases-statement : goal.decreases-statement
decreases-statement l = 64 * l.levels + 49

abbrev pub decreases-suffix : goal.decreases-suffix
decreases-suffix l = 64 * l.levels + 12

abbrev pub decreases-table : goal.decreases-table
decreases-table l = 64 * l.levels + 9

abbrev pub decreases-table_suffix : goal.decreases-table_suffix
decreases-table_suffix l = 64 * l.levels + 10

abbrev pub decreases-unary : goal.decreases-unary
decreases-unary l = 64 * l.levels + 17

abbrev pub decreases-expressions_behind : goal.decreases-expressions_behind
decreases-expressions_behind l = 64 * l.levels + 45

abbrev pub decreases-variable : goal.decreases-variable
decreases-variable l = 64 * l.levels + 14

abbrev pub decreases-while_statement : goal.decreases-while_statement
decreases-while_statement l = 64 * l.levels + 37

abbrev pub decreases-one_more : goal.decreases-one_more
decreases-one_more l = 64 * l.levels + (2 * l.rank + 19)

abbrev pub decreases-binary : goal.decreases-binary
decreases-binary l = 64 * l.levels + (2 * l.ranks + 18)

abbrev pub invariant-binary-more : goal.invariant-binary-more
invariant-binary-more l = Binding l.fn.levels l.from l.fn.ranks l.fn.mode l.fn.self l.self (binary_at l.fn.levels l.fn.ranks l.fn.mode l.fn.links (tokens_left l.fn.self)) l.a

abbrev pub decreases-binary-more : goal.decreases-binary-more
decreases-binary-more l = length (tokens_left l.self)

abbrev pub invariant-applied-more : goal.invariant-applied-more
invariant-applied-more l = Applying l.fn.levels l.fn.mode l.fn.self l.self (applied_at l.fn.levels l.fn.mode l.fn.bare (tokens_left l.fn.self)) l.a

abbrev pub decreases-applied-more : goal.decreases-applied-more
decreases-applied-more l = length (tokens_left l.self)

abbrev pub invariant-elements-more : goal.invariant-elements-more
invariant-elements-more l = Listing l.fn.self l.self (elements_at l.fn.levels l.fn.kind (tokens_left l.fn.self)) (λ (before : Tree) (ts : List Token). more_elements_at l.fn.levels l.fn.kind before ts) l.list

abbrev pub decreases-elements-more : goal.decreases-elements-more
decreases-elements-more l = length (tokens_left l.self)

abbrev pub invariant-fields-more : goal.invariant-fields-more
invariant-fields-more l = Listing l.fn.self l.self (part_at l.fn.levels (Fields l.fn.mode) (tokens_left l.fn.self)) (λ (before : Tree) (ts : List Token). more_fields_at l.fn.levels l.fn.mode before ts) l.list

abbrev pub decreases-fields-more : goal.decreases-fields-more
decreases-fields-more l = length (tokens_left l.self)

abbrev pub invariant-call_or_assignment-more : goal.invariant-call_or_assignment-more
invariant-call_or_assignment-more l = Listing l.fn.self l.self (call_or_assignment_at l.fn.levels l.fn.mode (tokens_left l.fn.self)) (λ (before : Tree) (ts : List Token). more_elements_at l.fn.levels (elements.Target l.fn.mode) before ts >>= λ targets c. expressions_behind_at l.fn.levels symbols.Equal (codes.Lua l.fn.mode) c >>= λ es rest. Took (Assign (first_place (tokens_left l.fn.self)) targets es) rest) l.targets

abbrev pub decreases-call_or_assignment-more : goal.decreases-call_or_assignment-more
decreases-call_or_assignment-more l = length (tokens_left l.self)

abbrev pub invariant-arms-more : goal.invariant-arms-more
invariant-arms-more l = Listing l.fn.self l.self (arms_at l.fn.levels l.fn.block (tokens_left l.fn.self)) (λ (before : Tree) (ts : List Token). more_arms_at l.fn.levels l.fn.block before ts) l.list

abbrev pub decreases-arms-more : goal.decreases-arms-more
decreases-arms-more l = length (tokens_left l.self)

abbrev pub invariant-for_statement-more : goal.invariant-for_statement-more
invariant-for_statement-more l = Listing l.fn.self l.self (for_at l.fn.levels l.fn.context (tokens_left l.fn.self)) (λ (before : Tree) (ts : List Token). more_names_at l.fn.levels before ts >>= λ ns d. generic_at l.fn.levels l.fn.context d >>= λ r rest. Took (GenericFor l.place ns r.values r.block) rest) l.names

abbrev pub decreases-for_statement-more : goal.decreases-for_statement-more
decreases-for_statement-more l = length (tokens_left l.self)

abbrev pub invariant-block-more : goal.invariant-block-more
invariant-block-more l = Sequencing l.fn.levels l.fn.block l.fn.self l.self (part_at l.fn.levels (statements_in l.fn.block) (tokens_left l.fn.self)) l.list l.ended

abbrev pub decreases-block-more : goal.decreases-block-more
decreases-block-more l = length (tokens_left l.self)

abbrev pub decreases-escape : goal.decreases-escape
decreases-escape l = 64 * l.levels + 1

abbrev pub decreases-terra_name : goal.decreases-terra_name
decreases-terra_name l = 64 * l.levels + 2

abbrev pub decreases-terra_paren : goal.decreases-terra_paren
decreases-terra_paren l = 64 * l.levels + 1

abbrev pub decreases-terra_base : goal.decreases-terra_base
decreases-terra_base l = 64 * l.levels + 2

abbrev pub decreases-terra_call_suffix : goal.decreases-terra_call_suffix
decreases-terra_call_suffix l = 64 * l.levels + 1

abbrev pub decreases-terra_index_suffix : goal.decreases-terra_index_suffix
decreases-terra_index_suffix l = 64 * l.levels + 1

abbrev pub decreases-terra_select_suffix : goal.decreases-terra_select_suffix
decreases-terra_select_suffix l = 64 * l.levels + 3

abbrev pub decreases-terra_method_suffix : goal.decreases-terra_method_suffix
decreases-terra_method_suffix l = 64 * l.levels + 3

abbrev pub decreases-construct_suffix : goal.decreases-construct_suffix
decreases-construct_suffix l = 64 * l.levels + 1

abbrev pub decreases-terra_suffix : goal.decreases-terra_suffix
decreases-terra_suffix l = 64 * l.levels + 4

abbrev pub decreases-terra_applied : goal.decreases-terra_applied
decreases-terra_applied l = 64 * l.levels + 5

abbrev pub decreases-terra_primary : goal.decreases-terra_primary
decreases-terra_primary l = 64 * l.levels + 6

abbrev pub decreases-terra_prefixed : goal.decreases-terra_prefixed
decreases-terra_prefixed l = 64 * l.levels + 7

abbrev pub decreases-terra_exponent : goal.decreases-terra_exponent
decreases-terra_exponent l = 64 * l.levels + 8

abbrev pub decreases-terra_unary : goal.decreases-terra_unary
decreases-terra_unary l = 64 * l.levels + 12

abbrev pub decreases-terra_operand : goal.decreases-terra_operand
decreases-terra_operand l = 64 * l.levels + 13

abbrev pub decreases-terra_expression : goal.decreases-terra_expression
decreases-terra_expression l = 64 * l.levels + 31

abbrev pub decreases-named_initialiser : goal.decreases-named_initialiser
decreases-named_initialiser l = 64 * l.levels + 38

abbrev pub decreases-initialiser : goal.decreases-initialiser
decreases-initialiser l = 64 * l.levels + 39

abbrev pub decreases-first_initialiser : goal.decreases-first_initialiser
decreases-first_initialiser l = 64 * l.levels + 38

abbrev pub decreases-next_initialiser : goal.decreases-next_initialiser
decreases-next_initialiser l = 64 * l.levels + 40

abbrev pub decreases-initialisers : goal.decreases-initialisers
decreases-initialisers l = 64 * l.levels + 41

abbrev pub decreases-terra_function : goal.decreases-terra_function
decreases-terra_function l = 64 * l.levels + 10

abbrev pub decreases-struct_body : goal.decreases-struct_body
decreases-struct_body l = 64 * l.levels + 9

abbrev pub decreases-struct_type : goal.decreases-struct_type
decreases-struct_type l = 64 * l.levels + 10

abbrev pub decreases-quote : goal.decreases-quote
decreases-quote l = 64 * l.levels + 9

abbrev pub decreases-backtick : goal.decreases-backtick
decreases-backtick l = 64 * l.levels + 9

abbrev pub decreases-terra_code : goal.decreases-terra_code
decreases-terra_code l = 64 * l.levels + 11

abbrev pub decreases-entry : goal.decreases-entry
decreases-entry l = 64 * l.levels + 38

abbrev pub decreases-entries : goal.decreases-entries
decreases-entries l = 64 * l.levels + 39

abbrev pub decreases-terra_inner : goal.decreases-terra_inner
decreases-terra_inner l = 64 * l.levels + (terra_rank_of l.precedence + 0)

abbrev pub decreases-terra_first : goal.decreases-terra_first
decreases-terra_first l = 64 * l.levels + (terra_rank_of l.precedence + 1)

abbrev pub decreases-terra_one_more : goal.decreases-terra_one_more
decreases-terra_one_more l = 64 * l.levels + (terra_rank_of l.precedence + 1)

abbrev pub decreases-terra_binary : goal.decreases-terra_binary
decreases-terra_binary l = 64 * l.levels + (terra_rank_of l.precedence + 2)

abbrev pub invariant-terra_binary-more : goal.invariant-terra_binary-more
invariant-terra_binary-more l = TerraBinding l.fn.levels l.fn.precedence l.fn.self l.self (terra_binary_at l.fn.levels l.fn.precedence l.fn.links (tokens_left l.fn.self)) l.a

abbrev pub decreases-terra_binary-more : goal.decreases-terra_binary-more
decreases-terra_binary-more l = length (tokens_left l.self)

abbrev pub invariant-terra_applied-more : goal.invariant-terra_applied-more
invariant-terra_applied-more l = TerraApplying l.fn.levels l.fn.self l.self (terra_applied_at l.fn.levels (tokens_left l.fn.self)) l.a

abbrev pub decreases-terra_applied-more : goal.decreases-terra_applied-more
decreases-terra_applied-more l = length (tokens_left l.self)

abbrev pub invariant-initialisers-more : goal.invariant-initialisers-more
invariant-initialisers-more l = Listing l.fn.self l.self (part_at l.fn.levels Initialisers (tokens_left l.fn.self)) (λ (before : Tree) (ts : List Token). more_initialisers_at l.fn.levels l.named before ts) l.list

abbrev pub decreases-initialisers-more : goal.decreases-initialisers-more
decreases-initialisers-more l = length (tokens_left l.self)

abbrev pub invariant-entries-more : goal.invariant-entries-more
invariant-entries-more l = Listing l.fn.self l.self (part_at l.fn.levels (Entries l.fn.mode) (tokens_left l.fn.self)) (λ (before : Tree) (ts : List Token). more_entries_at l.fn.levels l.fn.mode before ts) l.list

abbrev pub decreases-entries-more : goal.decreases-entries-more
decreases-entries-more l = length (tokens_left l.self)

abbrev pub decreases-terra_variable : goal.decreases-terra_variable
decreases-terra_variable l = 64 * l.levels + 41

abbrev pub decreases-terra_target : goal.decreases-terra_target
decreases-terra_target l = 64 * l.levels + 40

abbrev pub decreases-terra_simple_statement : goal.decreases-terra_simple_statement
decreases-terra_simple_statement l = 64 * l.levels + 46

abbrev pub decreases-terra_for : goal.decreases-terra_for
decreases-terra_for l = 64 * l.levels + 41

abbrev pub decreases-terra_var : goal.decreases-terra_var
decreases-terra_var l = 64 * l.levels + 47

abbrev pub decreases-escape_block : goal.decreases-escape_block
decreases-escape_block l = 64 * l.levels + 40

abbrev pub decreases-terra_statement : goal.decreases-terra_statement
decreases-terra_statement l = 64 * l.levels + 48

abbrev pub decreases-terra_parameter : goal.decreases-terra_parameter
decreases-terra_parameter l = 64 * l.levels + 40

abbrev pub decreases-terra_parameters : goal.decreases-terra_parameters
decreases-terra_parameters l = 64 * l.levels + 45

abbrev pub decreases-terra_function_body : goal.decreases-terra_function_body
decreases-terra_function_body l = 64 * l.levels + 9

abbrev pub decreases-quoted_code : goal.decreases-quoted_code
decreases-quoted_code l = 64 * l.levels + 52

abbrev pub decreases-define_terra : goal.decreases-define_terra
decreases-define_terra l = 64 * l.levels + 38

abbrev pub decreases-local_terra_function : goal.decreases-local_terra_function
decreases-local_terra_function l = 64 * l.levels + 38

abbrev pub decreases-local_struct : goal.decreases-local_struct
decreases-local_struct l = 64 * l.levels + 36

abbrev pub decreases-local_terra : goal.decreases-local_terra
decreases-local_terra l = 64 * l.levels + 39

abbrev pub decreases-define_struct : goal.decreases-define_struct
decreases-define_struct l = 64 * l.levels + 36

abbrev pub invariant-terra_simple_statement-more : goal.invariant-terra_simple_statement-more
invariant-terra_simple_statement-more l = Listing l.fn.self l.self (terra_simple_statement_at l.fn.levels (tokens_left l.fn.self)) (λ (before : Tree) (ts : List Token). terra_assignment_at l.fn.levels l.place before ts) l.targets

abbrev pub decreases-terra_simple_statement-more : goal.decreases-terra_simple_statement-more
decreases-terra_simple_statement-more l = length (tokens_left l.self)

abbrev pub decreases-expression_of : goal.decreases-expression_of
decreases-expression_of l = 64 * l.levels + 36

abbrev pub decreases-expression_behind : goal.decreases-expression_behind
decreases-expression_behind l = 64 * l.levels + 37

abbrev pub decreases-optional_expression : goal.decreases-optional_expression
decreases-optional_expression l = 64 * l.levels + 38

abbrev pub decreases-element : goal.decreases-element
decreases-element l = 64 * l.levels + 42

abbrev pub decreases-next_element : goal.decreases-next_element
decreases-next_element l = 64 * l.levels + 43

abbrev pub decreases-elements : goal.decreases-elements
decreases-elements l = 64 * l.levels + 44

abbrev pub decreases-placed_name : goal.decreases-placed_name
decreases-placed_name l = 64 * l.levels + 2

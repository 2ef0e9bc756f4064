use Rattle.std.proofs.Common.{◌∙◌}
use Rattle.tl_lex.proofs.ValueLemmas.{value_is, from_nothing}
use Rattle.tl_lex.proofs.value.literal_value.Goals as goal

pub returns-in_ok-push_long-in-Some : goal.returns-in_ok-push_long-in-Some
returns-in_ok-push_long-in-Some c =
    from_nothing _ _ _ c.in_ok-push_long-in-Some.ensures c.new-value.ensures.items
    ∙ value_is _ _ c.args.literal.now c.in-Some.ensures.level c.as_bytes-bytes.ensures.value

pub returns-in_ok-push_quoted-in-None : goal.returns-in_ok-push_quoted-in-None
returns-in_ok-push_quoted-in-None c =
    from_nothing _ _ _ c.in_ok-push_quoted-in-None.ensures c.new-value.ensures.items
    ∙ value_is _ _ c.args.literal.now c.in-None.ensures.level c.as_bytes-bytes.ensures.value

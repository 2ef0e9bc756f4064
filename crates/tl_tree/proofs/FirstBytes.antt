-- Texts whose first bytes differ.
pub use Rattle.tl_lex.proofs.WordLemmas.{first_differs}

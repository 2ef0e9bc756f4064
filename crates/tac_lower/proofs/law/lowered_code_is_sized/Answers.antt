use Rattle.tac_lower.proofs.Weights.{lowered-words}
use Rattle.tac_lower.proofs.Bytes.{lowered-bytes}
use Rattle.tac_lower.proofs.law.lowered_code_is_sized.Goals as goal

pub returns : goal.returns
returns c = λ store entries k types typed. record {
  in_words = lowered-words store entries k;
  in_bytes = lowered-bytes store entries k
      types typed;
}

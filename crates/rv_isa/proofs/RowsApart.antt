-- Operations with the same fields are the same.
use Rattle.std.proofs.Common.{◌≡◌, ◌∙◌, ℕ, ◌+◌, ◌*◌, cond, eqb, sym, ap, refl, arith}
use Rattle.rv_isa.specs.Rows.{branch_funct3, load_funct3, store_funct3, immediate_funct3, shift_funct3, shift_funct6, shift_word_funct7}
use Rattle.rv_isa.specs.Rows.{register_funct7, register_funct3, register_word_funct7, register_word_funct3}
use Rattle.rv_isa.specs.declared.operation.BranchCondition.{BranchCondition}
use Rattle.rv_isa.specs.declared.operation.BranchCondition.TheVariants.{Eq, Ne, Lt, Ge, Ltu, Geu}
use Rattle.rv_isa.specs.declared.operation.LoadOp.{LoadOp}
use Rattle.rv_isa.specs.declared.operation.LoadOp.TheVariants.{Lb, Lh, Lw, Ld, Lbu, Lhu, Lwu}
use Rattle.rv_isa.specs.declared.operation.StoreOp.{StoreOp}
use Rattle.rv_isa.specs.declared.operation.StoreOp.TheVariants.{Sb, Sh, Sw, Sd}
use Rattle.rv_isa.specs.declared.operation.ImmediateOp.{ImmediateOp}
use Rattle.rv_isa.specs.declared.operation.ImmediateOp.TheVariants.{Addi, Slti, Sltiu, Xori, Ori, Andi}
use Rattle.rv_isa.specs.declared.operation.ShiftOp.{ShiftOp}
use Rattle.rv_isa.specs.declared.operation.ShiftOp.TheVariants.{Slli, Srli, Srai}
use Rattle.rv_isa.specs.declared.operation.RegisterOp.{RegisterOp}
use Rattle.rv_isa.specs.declared.operation.RegisterOp.TheVariants.{Add, Sub, Sll, Slt, Sltu, Xor, Srl, Sra, Or, And, Mul, Mulh, Mulhsu}
use Rattle.rv_isa.specs.declared.operation.RegisterOp.TheVariants.{Mulhu, Div, Divu, Rem, Remu}
use Rattle.rv_isa.specs.declared.operation.RegisterWordOp.{RegisterWordOp}
use Rattle.rv_isa.specs.declared.operation.RegisterWordOp.TheVariants.{Addw, Subw, Sllw, Srlw, Sraw, Mulw, Divw, Divuw, Remw, Remuw}

branch_at : ℕ → BranchCondition
branch_at code = cond (eqb code 0) Eq (cond (eqb code 1) Ne (cond (eqb code 4) Lt (cond (eqb code 5) Ge (cond (eqb code 6) Ltu Geu))))

branch_again : (op : BranchCondition) → branch_at (branch_funct3 op) ≡ op
unfolding branch_at
branch_again Eq = refl
branch_again Ne = refl
branch_again Lt = refl
branch_again Ge = refl
branch_again Ltu = refl
branch_again Geu = refl

pub branch_same : (a b : BranchCondition) → branch_funct3 a ≡ branch_funct3 b → a ≡ b
branch_same a b e = sym (branch_again a) ∙ (ap branch_at e ∙ branch_again b)

load_at : ℕ → LoadOp
load_at code = cond (eqb code 0) Lb (cond (eqb code 1) Lh (cond (eqb code 2) Lw (cond (eqb code 3) Ld (cond (eqb code 4) Lbu (cond (eqb code 5) Lhu Lwu)))))

load_again : (op : LoadOp) → load_at (load_funct3 op) ≡ op
unfolding load_at
load_again Lb = refl
load_again Lh = refl
load_again Lw = refl
load_again Ld = refl
load_again Lbu = refl
load_again Lhu = refl
load_again Lwu = refl

pub load_same : (a b : LoadOp) → load_funct3 a ≡ load_funct3 b → a ≡ b
load_same a b e = sym (load_again a) ∙ (ap load_at e ∙ load_again b)

store_at : ℕ → StoreOp
store_at code = cond (eqb code 0) Sb (cond (eqb code 1) Sh (cond (eqb code 2) Sw Sd))

store_again : (op : StoreOp) → store_at (store_funct3 op) ≡ op
unfolding store_at
store_again Sb = refl
store_again Sh = refl
store_again Sw = refl
store_again Sd = refl

pub store_same : (a b : StoreOp) → store_funct3 a ≡ store_funct3 b → a ≡ b
store_same a b e = sym (store_again a) ∙ (ap store_at e ∙ store_again b)

immediate_at : ℕ → ImmediateOp
immediate_at code = cond (eqb code 0) Addi (cond (eqb code 2) Slti (cond (eqb code 3) Sltiu (cond (eqb code 4) Xori (cond (eqb code 6) Ori Andi))))

immediate_again : (op : ImmediateOp) → immediate_at (immediate_funct3 op) ≡ op
unfolding immediate_at
immediate_again Addi = refl
immediate_again Slti = refl
immediate_again Sltiu = refl
immediate_again Xori = refl
immediate_again Ori = refl
immediate_again Andi = refl

pub immediate_same : (a b : ImmediateOp) → immediate_funct3 a ≡ immediate_funct3 b → a ≡ b
immediate_same a b e = sym (immediate_again a) ∙ (ap immediate_at e ∙ immediate_again b)

shift_at : ℕ → ShiftOp
shift_at code = cond (eqb code 1) Slli (cond (eqb code 5) Srli Srai)

shift_again : (op : ShiftOp) → shift_at (shift_funct6 op * 8 + shift_funct3 op) ≡ op
unfolding shift_at
shift_again Slli = refl
shift_again Srli = refl
shift_again Srai = refl

pub shift_same : (a b : ShiftOp) → shift_funct6 a ≡ shift_funct6 b → shift_funct3 a ≡ shift_funct3 b → a ≡ b
shift_same a b e f =
    let codes : shift_funct6 a * 8 + shift_funct3 a ≡ shift_funct6 b * 8 + shift_funct3 b = omega arith in
    sym (shift_again a) ∙ (ap shift_at codes ∙ shift_again b)

register_at : ℕ → RegisterOp
register_at code = cond (eqb code 0) Add (cond (eqb code 256) Sub (cond (eqb code 1) Sll (cond (eqb code 2) Slt (cond (eqb code 3) Sltu (cond (eqb code 4) Xor (cond (eqb code 5) Srl (cond (eqb code 261) Sra (cond (eqb code 6) Or (cond (eqb code 7) And (cond (eqb code 8) Mul (cond (eqb code 9) Mulh (cond (eqb code 10) Mulhsu (cond (eqb code 11) Mulhu (cond (eqb code 12) Div (cond (eqb code 13) Divu (cond (eqb code 14) Rem Remu))))))))))))))))

register_again : (op : RegisterOp) → register_at (register_funct7 op * 8 + register_funct3 op) ≡ op
unfolding register_at
register_again Add = refl
register_again Sub = refl
register_again Sll = refl
register_again Slt = refl
register_again Sltu = refl
register_again Xor = refl
register_again Srl = refl
register_again Sra = refl
register_again Or = refl
register_again And = refl
register_again Mul = refl
register_again Mulh = refl
register_again Mulhsu = refl
register_again Mulhu = refl
register_again Div = refl
register_again Divu = refl
register_again Rem = refl
register_again Remu = refl

pub register_same : (a b : RegisterOp) → register_funct7 a ≡ register_funct7 b → register_funct3 a ≡ register_funct3 b → a ≡ b
register_same a b e f =
    let codes : register_funct7 a * 8 + register_funct3 a ≡ register_funct7 b * 8 + register_funct3 b = omega arith in
    sym (register_again a) ∙ (ap register_at codes ∙ register_again b)

register_word_at : ℕ → RegisterWordOp
register_word_at code = cond (eqb code 0) Addw (cond (eqb code 256) Subw (cond (eqb code 1) Sllw (cond (eqb code 5) Srlw (cond (eqb code 261) Sraw (cond (eqb code 8) Mulw (cond (eqb code 12) Divw (cond (eqb code 13) Divuw (cond (eqb code 14) Remw Remuw))))))))

register_word_again : (op : RegisterWordOp) → register_word_at (register_word_funct7 op * 8 + register_word_funct3 op) ≡ op
unfolding register_word_at
register_word_again Addw = refl
register_word_again Subw = refl
register_word_again Sllw = refl
register_word_again Srlw = refl
register_word_again Sraw = refl
register_word_again Mulw = refl
register_word_again Divw = refl
register_word_again Divuw = refl
register_word_again Remw = refl
register_word_again Remuw = refl

pub register_word_same : (a b : RegisterWordOp) → register_word_funct7 a ≡ register_word_funct7 b → register_word_funct3 a ≡ register_word_funct3 b → a ≡ b
register_word_same a b e f =
    let codes : register_word_funct7 a * 8 + register_word_funct3 a ≡ register_word_funct7 b * 8 + register_word_funct3 b = omega arith in
    sym (register_word_again a) ∙ (ap register_word_at codes ∙ register_word_again b)

shift_word_double : (op : ShiftOp) → shift_word_funct7 op ≡ 2 * shift_funct6 op
shift_word_double op = grind arith

-- the two fields above a shift's count tell the same apart
pub shift_word_same : (a b : ShiftOp) → shift_word_funct7 a ≡ shift_word_funct7 b → shift_funct3 a ≡ shift_funct3 b → a ≡ b
shift_word_same a b e f = shift_same a b (omega (arith, shift_word_double a, shift_word_double b)) f

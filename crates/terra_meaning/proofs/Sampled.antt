-- Small functions, as terms of a store. Rows has what they mean, computed. The terms are those of this source:
--
--     struct P { a : int8; b : int64; c : int16 }
--     struct Q { p : P; v : int[3] }
--     g = global(int, 7)
--     terra sh(a : int8, b : int) : int8 return a << b end
--     terra sr(a : int8, b : int64) : int8 return a >> b end
--     terra su(a : uint8, b : int) : uint8 return a >> b end
--     terra conv(a : int64) : int64 return int64(int8(a)) + int64(uint16(a)) end
--     terra tobool(a : int) : bool return bool(a) end
--     terra frombool(a : bool) : int return int(a) + 1 end
--     terra cmp(a : int, b : uint) : bool return a < b end
--     terra cmps(a : int8, b : int16) : bool return a <= b end
--     terra logic(a : uint8, b : uint8) : uint8 return (a and b) ^ (not a or b) end
--     terra notb(a : bool, b : bool) : bool return not (a and not b or b and not a) end
--     terra rem(a : int, b : int) : int return a % b end
--     terra least(a : int64, b : int64) : int64 return a / b end
--     terra udiv(a : uint64, b : uint64) : uint64 return a / b + a % b end
--     terra arr(n : int) : int var v : int[4] for i = 0, 4 do v[i] = n * i end var p = &v[1] p[1] = 100 return v[0]
--         + v[1] + v[2] + @(p + 2) + int(&v[3] - p) end
--     terra ptr() : int64 return [&int](7) - [&int](16) end
--     terra fill(q : &Q) : {} q.p.a = -3 q.p.b = 5 q.p.c = 6 q.v[2] = 9 end
--     terra nest() : int64 var q : Q fill(&q) var r = q r.p.b = 1 return q.p.b * 1000 + q.v[2] * 100 + r.p.b * 10 +
--         q.p.a end
--     terra byval(p : P) : int64 p.b = p.b + 1 return p.b + p.a + p.c end
--     terra agg(n : int) : int64 var p = P { 1, n, 3 } var s = byval(p) return s * 100 + p.b + P { a = 1, b = 50, b
--         = 60 }.b end
--     terra rep(n : int) : int var t = 0 repeat var done = n <= 0 t = t + n n = n - 1 until done return t end
--     terra down(n : int) : int var t = 0 for i = n, 0, -2 do if i == 5 then break end t = t * 10 + i end return t end
--     terra glob() : int g = g + 1 var p = &g @p = @p * 2 return g end
--     terra swap(a : int, b : int) : int a, b = b, a return a * 10 + b end
--     terra deep(n : int) : int if n == 0 then return 0 end return deep(n - 1) + 1 end
--     terra say() : {} terralib.write([&uint8]("hey"), 3) terralib.putbyte(10) end
--     terra badsay() : {} terralib.write([&uint8]("hey"), -1) end
--     terra heap() : int var p = [&int](terralib.alloc(8)) p[1] = 5 var q = terralib.alloc(-1) return p[1] +
--         int([uint64](q)) end
--     terra boolmem(x : uint8) : bool var y = x return @[&bool](&y) end
--     terra u8s(a : uint8) : int return -int(a) end
--     terra negu(a : uint) : uint return -a end
--     terra wrap(a : int) : int return a * a + 2147483647 end
--     local s = symbol(int)
--     terra shadow() : int var [s] = 1 do var [s] : int64 = 2 s = 5 end return s end
--     local function twice(e) return quote var x = e x = x + 1 in x * 2 end end
--     terra lets(n : int) : int return [twice(`n)] + [twice(`n + 1)] end
--     terra orders(n : int) : int var a : int[3] a[0] = 10 var i = 0 i, a[i] = 2, n return a[0] * 10 + i end
--     terra steps(n : uint8, k : uint8) : int var t = 0 for i = n, 10, k do t = t + 1 end return t end
--     terra member() : &P var p : &P = nil return [&P](&p.c) end
--     terra wildread(a : int64) : int64 return @[&int64](a) end
use Rattle.std.specs.Prelude.{false, List, [], ◌∷◌, ◌++◌}
use Rattle.terra_words.specs.declared.words.BinaryOperator.TheVariants as operators
use Rattle.terra_types.specs.declared.types.TypeForm.TheVariants as forms
use Rattle.terra_types.specs.Opening.{opening_types}
use Rattle.terra_term.specs.declared.operators.Constant.TheVariants as constants
use Rattle.terra_term.specs.declared.operators.Operation.TheVariants as operations
use Rattle.lua_value.specs.declared.primitive.Primitive.TheVariants.{PutByte, Write, Alloc}
use Rattle.terra_term.specs.TypedTerms as items
use Rattle.terra_term.specs.Stores.{Contents}
use Rattle.terra_term.specs.TypedTerms.{typed, Constant', Variable, Global, Operate, Both, Either, Dereference, Select}
use Rattle.terra_term.specs.TypedTerms.{Follow, Element, Index, Address, Let, no_more, then_one, statement, Var, Assign, If, Repeat, For}
use Rattle.terra_term.specs.TypedTerms.{Do, Break, Return, Perform, done, and_then, Body}
use Rattle.terra_meaning.proofs.Examples.{t, f, x, at, e, name, laid, struct_of, function}

abbrev pub body_0 : Body
body_0 = record {
  parameters = name 0 0 ∷ name 1 2 ∷ [];
  result = t 0;
  body = (and_then (statement (at 4 14) (Return (e 4 16 0 (Operate (operations.Binary operators.ShiftLeft) (then_one
      (e 4 15 0 (Variable (x 0))) (then_one (e 4 17 2 (Variable (x 1))) (no_more))))))) (done));
}

abbrev pub body_1 : Body
body_1 = record {
  parameters = name 2 0 ∷ name 3 3 ∷ [];
  result = t 0;
  body = (and_then (statement (at 5 14) (Return (e 5 16 0 (Operate (operations.Binary operators.ShiftRight) (then_one
      (e 5 15 0 (Variable (x 2))) (then_one (e 5 17 3 (Variable (x 3))) (no_more))))))) (done));
}

abbrev pub body_2 : Body
body_2 = record {
  parameters = name 4 4 ∷ name 5 2 ∷ [];
  result = t 4;
  body = (and_then (statement (at 6 14) (Return (e 6 16 4 (Operate (operations.Binary operators.ShiftRight) (then_one
      (e 6 15 4 (Variable (x 4))) (then_one (e 6 17 2 (Variable (x 5))) (no_more))))))) (done));
}

abbrev pub body_3 : Body
body_3 = record {
  parameters = name 6 3 ∷ [];
  result = t 3;
  body = (and_then (statement (at 7 10) (Return (e 7 18 3 (Operate (operations.Binary operators.Add) (then_one
      (e 7 15 3 (Operate operations.Convert (then_one (e 7 15 0 (Operate operations.Convert (then_one (e 7 15 3
      (Variable (x 6))) (no_more)))) (no_more)))) (then_one (e 7 23 3 (Operate operations.Convert (then_one (e 7 23 5
      (Operate operations.Convert (then_one (e 7 23 3 (Variable (x 6))) (no_more)))) (no_more)))) (no_more)))))))
      (done));
}

abbrev pub body_4 : Body
body_4 = record {
  parameters = name 7 2 ∷ [];
  result = t 8;
  body = (and_then (statement (at 8 10) (Return (e 8 13 8 (Operate operations.Convert (then_one (e 8 13 2 (Variable
      (x 7))) (no_more)))))) (done));
}

abbrev pub body_5 : Body
body_5 = record {
  parameters = name 8 8 ∷ [];
  result = t 2;
  body = (and_then (statement (at 9 10) (Return (e 9 15 2 (Operate (operations.Binary operators.Add) (then_one
      (e 9 13 2 (Operate operations.Convert (then_one (e 9 13 8 (Variable (x 8))) (no_more)))) (then_one (e 9 16 2
      (Constant' (constants.Number 1))) (no_more))))))) (done));
}

abbrev pub body_6 : Body
body_6 = record {
  parameters = name 9 2 ∷ name 10 6 ∷ [];
  result = t 8;
  body = (and_then (statement (at 10 14) (Return (e 10 16 8 (Operate (operations.Binary operators.Less) (then_one
      (e 10 15 6 (Operate operations.Convert (then_one (e 10 15 2 (Variable (x 9))) (no_more)))) (then_one (e 10 17 6
      (Variable (x 10))) (no_more))))))) (done));
}

abbrev pub body_7 : Body
body_7 = record {
  parameters = name 11 0 ∷ name 12 1 ∷ [];
  result = t 8;
  body = (and_then (statement (at 11 14) (Return (e 11 16 8 (Operate (operations.Binary operators.LessEqual) (then_one
      (e 11 15 1 (Operate operations.Convert (then_one (e 11 15 0 (Variable (x 11))) (no_more)))) (then_one (e 11 17 1
      (Variable (x 12))) (no_more))))))) (done));
}

abbrev pub body_8 : Body
body_8 = record {
  parameters = name 13 4 ∷ name 14 4 ∷ [];
  result = t 4;
  body = (and_then (statement (at 12 14) (Return (e 12 20 4 (Operate (operations.Binary operators.Xor) (then_one
      (e 12 17 4 (Operate (operations.Binary operators.And) (then_one (e 12 16 4 (Variable (x 13))) (then_one
      (e 12 18 4 (Variable (x 14))) (no_more))))) (then_one (e 12 24 4 (Operate (operations.Binary operators.Or)
      (then_one (e 12 22 4 (Operate (operations.Not) (then_one (e 12 23 4 (Variable (x 13))) (no_more)))) (then_one
      (e 12 25 4 (Variable (x 14))) (no_more))))) (no_more))))))) (done));
}

abbrev pub body_9 : Body
body_9 = record {
  parameters = name 15 8 ∷ name 16 8 ∷ [];
  result = t 8;
  body = (and_then (statement (at 13 14) (Return (e 13 15 8 (Operate (operations.Not) (then_one (e 13 21 8 (Either
      (e 13 18 8 (Both (e 13 17 8 (Variable (x 15))) (e 13 19 8 (Operate (operations.Not) (then_one (e 13 20 8
      (Variable (x 16))) (no_more)))))) (e 13 23 8 (Both (e 13 22 8 (Variable (x 16))) (e 13 24 8 (Operate
      (operations.Not) (then_one (e 13 25 8 (Variable (x 15))) (no_more)))))))) (no_more)))))) (done));
}

abbrev pub body_10 : Body
body_10 = record {
  parameters = name 17 2 ∷ name 18 2 ∷ [];
  result = t 2;
  body = (and_then (statement (at 14 14) (Return (e 14 16 2 (Operate (operations.Binary operators.Modulo) (then_one
      (e 14 15 2 (Variable (x 17))) (then_one (e 14 17 2 (Variable (x 18))) (no_more))))))) (done));
}

abbrev pub body_11 : Body
body_11 = record {
  parameters = name 19 3 ∷ name 20 3 ∷ [];
  result = t 3;
  body = (and_then (statement (at 15 14) (Return (e 15 16 3 (Operate (operations.Binary operators.Divide) (then_one
      (e 15 15 3 (Variable (x 19))) (then_one (e 15 17 3 (Variable (x 20))) (no_more))))))) (done));
}

abbrev pub body_12 : Body
body_12 = record {
  parameters = name 21 7 ∷ name 22 7 ∷ [];
  result = t 7;
  body = (and_then (statement (at 16 14) (Return (e 16 18 7 (Operate (operations.Binary operators.Add) (then_one
      (e 16 16 7 (Operate (operations.Binary operators.Divide) (then_one (e 16 15 7 (Variable (x 21))) (then_one
      (e 16 17 7 (Variable (x 22))) (no_more))))) (then_one (e 16 20 7 (Operate (operations.Binary operators.Modulo)
      (then_one (e 16 19 7 (Variable (x 21))) (then_one (e 16 21 7 (Variable (x 22))) (no_more))))) (no_more)))))))
      (done));
}

abbrev pub body_13 : Body
body_13 = record {
  parameters = name 23 2 ∷ [];
  result = t 2;
  body = (and_then (statement (at 17 10) (Var (name 24 11 ∷ []) (no_more))) (and_then (statement (at 17 17) (For
      (name 25 2) (then_one (e 17 20 2 (Constant' (constants.Number 0))) (then_one (e 17 22 2 (Constant'
      (constants.Number 4))) (no_more))) (and_then (statement (at 17 24) (Assign (then_one (e 17 25 2 (Element
      (e 17 24 11 (Variable (x 24))) (e 17 26 2 (Variable (x 25))))) (no_more)) (then_one (e 17 30 2 (Operate
      (operations.Binary operators.Multiply) (then_one (e 17 29 2 (Variable (x 23))) (then_one (e 17 31 2 (Variable
      (x 25))) (no_more))))) (no_more)))) (done)))) (and_then (statement (at 17 33) (Var (name 26 12 ∷ []) (then_one
      (e 17 36 12 (Address (e 17 38 2 (Element (e 17 37 11 (Variable (x 24))) (e 17 39 2 (Constant'
      (constants.Number 1))))))) (no_more)))) (and_then (statement (at 17 41) (Assign (then_one (e 17 42 2 (Index
      (e 17 41 12 (Variable (x 26))) (e 17 43 2 (Constant' (constants.Number 1))))) (no_more)) (then_one (e 17 46 2
      (Constant' (constants.Number 100))) (no_more)))) (and_then (statement (at 17 47) (Return (e 17 69 2 (Operate
      (operations.Binary operators.Add) (then_one (e 17 62 2 (Operate (operations.Binary operators.Add) (then_one
      (e 17 57 2 (Operate (operations.Binary operators.Add) (then_one (e 17 52 2 (Operate
      (operations.Binary operators.Add) (then_one (e 17 49 2 (Element (e 17 48 11 (Variable (x 24))) (e 17 50 2
      (Constant' (constants.Number 0))))) (then_one (e 17 54 2 (Element (e 17 53 11 (Variable (x 24))) (e 17 55 2
      (Constant' (constants.Number 1))))) (no_more))))) (then_one (e 17 59 2 (Element (e 17 58 11 (Variable (x 24)))
      (e 17 60 2 (Constant' (constants.Number 2))))) (no_more))))) (then_one (e 17 63 2 (Dereference (e 17 66 12
      (Operate (operations.StepForward) (then_one (e 17 65 12 (Variable (x 26))) (then_one (e 17 67 2 (Constant'
      (constants.Number 2))) (no_more))))))) (no_more))))) (then_one (e 17 77 2 (Operate operations.Convert (then_one
      (e 17 77 3 (Operate (operations.Difference) (then_one (e 17 72 12 (Address (e 17 74 2 (Element (e 17 73 11
      (Variable (x 24))) (e 17 75 2 (Constant' (constants.Number 3))))))) (then_one (e 17 78 12 (Variable (x 26)))
      (no_more))))) (no_more)))) (no_more))))))) (done))))));
}

abbrev pub body_14 : Body
body_14 = record {
  parameters = [];
  result = t 3;
  body = (and_then (statement (at 18 7) (Return (e 18 15 3 (Operate (operations.Difference) (then_one (e 18 13 12
      (Operate operations.Convert (then_one (e 18 13 2 (Constant' (constants.Number 7))) (no_more)))) (then_one
      (e 18 21 12 (Operate operations.Convert (then_one (e 18 21 2 (Constant' (constants.Number 16))) (no_more))))
      (no_more))))))) (done));
}

abbrev pub body_15 : Body
body_15 = record {
  parameters = name 27 16 ∷ [];
  result = t 9;
  body = (and_then (statement (at 19 12) (Assign (then_one (e 19 15 0 (Select 0 (e 19 13 13 (Follow 0 (e 19 12 16
      (Variable (x 27))))))) (no_more)) (then_one (e 19 18 0 (Operate operations.Convert (then_one (e 19 18 2 (Operate
      (operations.Negate) (then_one (e 19 19 2 (Constant' (constants.Number 3))) (no_more)))) (no_more))))
      (no_more)))) (and_then (statement (at 19 20) (Assign (then_one (e 19 23 3 (Select 8 (e 19 21 13 (Follow 0
      (e 19 20 16 (Variable (x 27))))))) (no_more)) (then_one (e 19 26 3 (Operate operations.Convert (then_one
      (e 19 26 2 (Constant' (constants.Number 5))) (no_more)))) (no_more)))) (and_then (statement (at 19 27) (Assign
      (then_one (e 19 30 1 (Select 16 (e 19 28 13 (Follow 0 (e 19 27 16 (Variable (x 27))))))) (no_more)) (then_one
      (e 19 33 1 (Operate operations.Convert (then_one (e 19 33 2 (Constant' (constants.Number 6))) (no_more))))
      (no_more)))) (and_then (statement (at 19 34) (Assign (then_one (e 19 37 2 (Element (e 19 35 14 (Follow 24
      (e 19 34 16 (Variable (x 27))))) (e 19 38 2 (Constant' (constants.Number 2))))) (no_more)) (then_one (e 19 41 2
      (Constant' (constants.Number 9))) (no_more)))) (done)))));
}

abbrev pub body_16 : Body
body_16 = record {
  parameters = [];
  result = t 3;
  body = (and_then (statement (at 20 7) (Var (name 28 15 ∷ []) (no_more))) (and_then (statement (at 20 11) (Perform
      (e 20 12 9 (Operate (operations.Call (f 15)) (then_one (e 20 13 16 (Address (e 20 14 15 (Variable (x 28)))))
      (no_more)))))) (and_then (statement (at 20 16) (Var (name 29 15 ∷ []) (then_one (e 20 19 15 (Variable (x 28)))
      (no_more)))) (and_then (statement (at 20 20) (Assign (then_one (e 20 23 3 (Select 8 (e 20 21 13 (Select 0
      (e 20 20 15 (Variable (x 29))))))) (no_more)) (then_one (e 20 26 3 (Operate operations.Convert (then_one
      (e 20 26 2 (Constant' (constants.Number 1))) (no_more)))) (no_more)))) (and_then (statement (at 20 27) (Return
      (e 20 52 3 (Operate (operations.Binary operators.Add) (then_one (e 20 44 3 (Operate
      (operations.Binary operators.Add) (then_one (e 20 35 3 (Operate (operations.Binary operators.Add) (then_one
      (e 20 33 3 (Operate (operations.Binary operators.Multiply) (then_one (e 20 31 3 (Select 8 (e 20 29 13 (Select 0
      (e 20 28 15 (Variable (x 28))))))) (then_one (e 20 34 3 (Operate operations.Convert (then_one (e 20 34 2
      (Constant' (constants.Number 1000))) (no_more)))) (no_more))))) (then_one (e 20 42 3 (Operate operations.Convert
      (then_one (e 20 42 2 (Operate (operations.Binary operators.Multiply) (then_one (e 20 39 2 (Element (e 20 37 14
      (Select 24 (e 20 36 15 (Variable (x 28))))) (e 20 40 2 (Constant' (constants.Number 2))))) (then_one (e 20 43 2
      (Constant' (constants.Number 100))) (no_more))))) (no_more)))) (no_more))))) (then_one (e 20 50 3 (Operate
      (operations.Binary operators.Multiply) (then_one (e 20 48 3 (Select 8 (e 20 46 13 (Select 0 (e 20 45 15
      (Variable (x 29))))))) (then_one (e 20 51 3 (Operate operations.Convert (then_one (e 20 51 2 (Constant'
      (constants.Number 10))) (no_more)))) (no_more))))) (no_more))))) (then_one (e 20 56 3
      (Operate operations.Convert (then_one (e 20 56 0 (Select 0 (e 20 54 13 (Select 0 (e 20 53 15 (Variable
      (x 28))))))) (no_more)))) (no_more))))))) (done))))));
}

abbrev pub body_17 : Body
body_17 = record {
  parameters = name 30 13 ∷ [];
  result = t 3;
  body = (and_then (statement (at 21 10) (Assign (then_one (e 21 11 3 (Select 8 (e 21 10 13 (Variable (x 30)))))
      (no_more)) (then_one (e 21 17 3 (Operate (operations.Binary operators.Add) (then_one (e 21 15 3 (Select 8
      (e 21 14 13 (Variable (x 30))))) (then_one (e 21 18 3 (Operate operations.Convert (then_one (e 21 18 2
      (Constant' (constants.Number 1))) (no_more)))) (no_more))))) (no_more)))) (and_then (statement (at 21 19)
      (Return (e 21 27 3 (Operate (operations.Binary operators.Add) (then_one (e 21 23 3 (Operate
      (operations.Binary operators.Add) (then_one (e 21 21 3 (Select 8 (e 21 20 13 (Variable (x 30))))) (then_one
      (e 21 25 3 (Operate operations.Convert (then_one (e 21 25 0 (Select 0 (e 21 24 13 (Variable (x 30)))))
      (no_more)))) (no_more))))) (then_one (e 21 29 3 (Operate operations.Convert (then_one (e 21 29 1 (Select 16
      (e 21 28 13 (Variable (x 30))))) (no_more)))) (no_more))))))) (done)));
}

abbrev pub body_18 : Body
body_18 = record {
  parameters = name 31 2 ∷ [];
  result = t 3;
  body = (and_then (statement (at 22 10) (Var (name 32 13 ∷ []) (then_one (e 22 14 13 (Operate (operations.Construct
      (0 ∷ 8 ∷ 16 ∷ [])) (then_one (e 22 15 0 (Operate operations.Convert (then_one (e 22 15 2 (Constant'
      (constants.Number 1))) (no_more)))) (then_one (e 22 17 3 (Operate operations.Convert (then_one (e 22 17 2
      (Variable (x 31))) (no_more)))) (then_one (e 22 19 1 (Operate operations.Convert (then_one (e 22 19 2 (Constant'
      (constants.Number 3))) (no_more)))) (no_more)))))) (no_more)))) (and_then (statement (at 22 21) (Var
      (name 33 3 ∷ []) (then_one (e 22 25 3 (Operate (operations.Call (f 17)) (then_one (e 22 26 13 (Variable (x 32)))
      (no_more)))) (no_more)))) (and_then (statement (at 22 28) (Return (e 22 36 3 (Operate
      (operations.Binary operators.Add) (then_one (e 22 32 3 (Operate (operations.Binary operators.Add) (then_one
      (e 22 30 3 (Operate (operations.Binary operators.Multiply) (then_one (e 22 29 3 (Variable (x 33))) (then_one
      (e 22 31 3 (Operate operations.Convert (then_one (e 22 31 2 (Constant' (constants.Number 100))) (no_more))))
      (no_more))))) (then_one (e 22 34 3 (Select 8 (e 22 33 13 (Variable (x 32))))) (no_more))))) (then_one (e 22 51 3
      (Operate (operations.Extract 8) (then_one (e 22 38 13 (Operate (operations.Construct (0 ∷ 8 ∷ 8 ∷ [])) (then_one
      (e 22 41 0 (Operate operations.Convert (then_one (e 22 41 2 (Constant' (constants.Number 1))) (no_more))))
      (then_one (e 22 45 3 (Operate operations.Convert (then_one (e 22 45 2 (Constant' (constants.Number 50)))
      (no_more)))) (then_one (e 22 49 3 (Operate operations.Convert (then_one (e 22 49 2 (Constant'
      (constants.Number 60))) (no_more)))) (no_more)))))) (no_more)))) (no_more))))))) (done))));
}

abbrev pub body_19 : Body
body_19 = record {
  parameters = name 34 2 ∷ [];
  result = t 2;
  body = (and_then (statement (at 23 10) (Var (name 35 2 ∷ []) (then_one (e 23 13 2 (Constant' (constants.Number 0)))
      (no_more)))) (and_then (statement (at 23 14) (Repeat (and_then (statement (at 23 15) (Var (name 36 8 ∷ [])
      (then_one (e 23 19 8 (Operate (operations.Binary operators.LessEqual) (then_one (e 23 18 2 (Variable (x 34)))
      (then_one (e 23 20 2 (Constant' (constants.Number 0))) (no_more))))) (no_more)))) (and_then (statement
      (at 23 21) (Assign (then_one (e 23 21 2 (Variable (x 35))) (no_more)) (then_one (e 23 24 2 (Operate
      (operations.Binary operators.Add) (then_one (e 23 23 2 (Variable (x 35))) (then_one (e 23 25 2 (Variable
      (x 34))) (no_more))))) (no_more)))) (and_then (statement (at 23 26) (Assign (then_one (e 23 26 2 (Variable
      (x 34))) (no_more)) (then_one (e 23 29 2 (Operate (operations.Binary operators.Subtract) (then_one (e 23 28 2
      (Variable (x 34))) (then_one (e 23 30 2 (Constant' (constants.Number 1))) (no_more))))) (no_more)))) (done))))
      (e 23 32 8 (Variable (x 36))))) (and_then (statement (at 23 33) (Return (e 23 34 2 (Variable (x 35)))))
      (done))));
}

abbrev pub body_20 : Body
body_20 = record {
  parameters = name 37 2 ∷ [];
  result = t 2;
  body = (and_then (statement (at 24 10) (Var (name 38 2 ∷ []) (then_one (e 24 13 2 (Constant' (constants.Number 0)))
      (no_more)))) (and_then (statement (at 24 14) (For (name 39 2) (then_one (e 24 17 2 (Variable (x 37))) (then_one
      (e 24 19 2 (Constant' (constants.Number 0))) (then_one (e 24 21 2 (Operate (operations.Negate) (then_one
      (e 24 22 2 (Constant' (constants.Number 2))) (no_more)))) (no_more)))) (and_then (statement (at 24 24) (If
      (e 24 26 8 (Operate (operations.Binary operators.Equal) (then_one (e 24 25 2 (Variable (x 39))) (then_one
      (e 24 27 2 (Constant' (constants.Number 5))) (no_more))))) (and_then (statement (at 24 29) (Break)) (done))))
      (and_then (statement (at 24 31) (Assign (then_one (e 24 31 2 (Variable (x 38))) (no_more)) (then_one (e 24 36 2
      (Operate (operations.Binary operators.Add) (then_one (e 24 34 2 (Operate (operations.Binary operators.Multiply)
      (then_one (e 24 33 2 (Variable (x 38))) (then_one (e 24 35 2 (Constant' (constants.Number 10))) (no_more)))))
      (then_one (e 24 37 2 (Variable (x 39))) (no_more))))) (no_more)))) (done))))) (and_then (statement (at 24 39)
      (Return (e 24 40 2 (Variable (x 38))))) (done))));
}

abbrev pub body_21 : Body
body_21 = record {
  parameters = [];
  result = t 2;
  body = (and_then (statement (at 25 7) (Assign (then_one (e 25 7 2 (Global 1073741824)) (no_more)) (then_one
      (e 25 10 2 (Operate (operations.Binary operators.Add) (then_one (e 25 9 2 (Global 1073741824)) (then_one
      (e 25 11 2 (Constant' (constants.Number 1))) (no_more))))) (no_more)))) (and_then (statement (at 25 12) (Var
      (name 40 12 ∷ []) (then_one (e 25 15 12 (Address (e 25 16 2 (Global 1073741824)))) (no_more)))) (and_then
      (statement (at 25 17) (Assign (then_one (e 25 17 2 (Dereference (e 25 18 12 (Variable (x 40))))) (no_more))
      (then_one (e 25 22 2 (Operate (operations.Binary operators.Multiply) (then_one (e 25 20 2 (Dereference
      (e 25 21 12 (Variable (x 40))))) (then_one (e 25 23 2 (Constant' (constants.Number 2))) (no_more)))))
      (no_more)))) (and_then (statement (at 25 24) (Return (e 25 25 2 (Global 1073741824)))) (done)))));
}

abbrev pub body_22 : Body
body_22 = record {
  parameters = name 41 2 ∷ name 42 2 ∷ [];
  result = t 2;
  body = (and_then (statement (at 26 14) (Assign (then_one (e 26 14 2 (Variable (x 41))) (then_one (e 26 16 2
      (Variable (x 42))) (no_more))) (then_one (e 26 18 2 (Variable (x 42))) (then_one (e 26 20 2 (Variable (x 41)))
      (no_more))))) (and_then (statement (at 26 21) (Return (e 26 25 2 (Operate (operations.Binary operators.Add)
      (then_one (e 26 23 2 (Operate (operations.Binary operators.Multiply) (then_one (e 26 22 2 (Variable (x 41)))
      (then_one (e 26 24 2 (Constant' (constants.Number 10))) (no_more))))) (then_one (e 26 26 2 (Variable (x 42)))
      (no_more))))))) (done)));
}

abbrev pub body_23 : Body
body_23 = record {
  parameters = name 43 2 ∷ [];
  result = t 2;
  body = (and_then (statement (at 27 10) (If (e 27 12 8 (Operate (operations.Binary operators.Equal) (then_one
      (e 27 11 2 (Variable (x 43))) (then_one (e 27 13 2 (Constant' (constants.Number 0))) (no_more))))) (and_then
      (statement (at 27 15) (Return (e 27 16 2 (Constant' (constants.Number 0))))) (done)))) (and_then (statement
      (at 27 18) (Return (e 27 25 2 (Operate (operations.Binary operators.Add) (then_one (e 27 20 2 (Operate
      (operations.Call (f 23)) (then_one (e 27 22 2 (Operate (operations.Binary operators.Subtract) (then_one
      (e 27 21 2 (Variable (x 43))) (then_one (e 27 23 2 (Constant' (constants.Number 1))) (no_more))))) (no_more))))
      (then_one (e 27 26 2 (Constant' (constants.Number 1))) (no_more))))))) (done)));
}

abbrev pub body_24 : Body
body_24 = record {
  parameters = [];
  result = t 9;
  body = (and_then (statement (at 28 8) (Perform (e 28 11 9 (Operate (operations.Primitive Write) (then_one
      (e 28 17 17 (Operate operations.Convert (then_one (e 28 17 10 (Constant' (constants.Static 1073741840)))
      (no_more)))) (then_one (e 28 20 3 (Operate operations.Convert (then_one (e 28 20 2 (Constant'
      (constants.Number 3))) (no_more)))) (no_more))))))) (and_then (statement (at 28 22) (Perform (e 28 25 9 (Operate
      (operations.Primitive PutByte) (then_one (e 28 26 4 (Operate operations.Convert (then_one (e 28 26 2 (Constant'
      (constants.Number 10))) (no_more)))) (no_more)))))) (done)));
}

abbrev pub body_25 : Body
body_25 = record {
  parameters = [];
  result = t 9;
  body = (and_then (statement (at 29 8) (Perform (e 29 11 9 (Operate (operations.Primitive Write) (then_one
      (e 29 17 17 (Operate operations.Convert (then_one (e 29 17 10 (Constant' (constants.Static 1073741840)))
      (no_more)))) (then_one (e 29 20 3 (Operate operations.Convert (then_one (e 29 20 2 (Operate (operations.Negate)
      (then_one (e 29 21 2 (Constant' (constants.Number 1))) (no_more)))) (no_more)))) (no_more))))))) (done));
}

abbrev pub body_26 : Body
body_26 = record {
  parameters = [];
  result = t 2;
  body = (and_then (statement (at 30 7) (Var (name 44 12 ∷ []) (then_one (e 30 18 12 (Operate operations.Convert
      (then_one (e 30 18 17 (Operate (operations.Primitive Alloc) (then_one (e 30 19 3 (Operate operations.Convert
      (then_one (e 30 19 2 (Constant' (constants.Number 8))) (no_more)))) (no_more)))) (no_more)))) (no_more))))
      (and_then (statement (at 30 22) (Assign (then_one (e 30 23 2 (Index (e 30 22 12 (Variable (x 44))) (e 30 24 2
      (Constant' (constants.Number 1))))) (no_more)) (then_one (e 30 27 2 (Constant' (constants.Number 5)))
      (no_more)))) (and_then (statement (at 30 28) (Var (name 45 17 ∷ []) (then_one (e 30 34 17 (Operate
      (operations.Primitive Alloc) (then_one (e 30 35 3 (Operate operations.Convert (then_one (e 30 35 2 (Operate
      (operations.Negate) (then_one (e 30 36 2 (Constant' (constants.Number 1))) (no_more)))) (no_more))))
      (no_more)))) (no_more)))) (and_then (statement (at 30 38) (Return (e 30 43 2 (Operate
      (operations.Binary operators.Add) (then_one (e 30 40 2 (Index (e 30 39 12 (Variable (x 44))) (e 30 41 2
      (Constant' (constants.Number 1))))) (then_one (e 30 50 2 (Operate operations.Convert (then_one (e 30 50 7
      (Operate operations.Convert (then_one (e 30 50 17 (Variable (x 45))) (no_more)))) (no_more)))) (no_more)))))))
      (done)))));
}

abbrev pub body_27 : Body
body_27 = record {
  parameters = name 46 4 ∷ [];
  result = t 8;
  body = (and_then (statement (at 31 10) (Var (name 47 4 ∷ []) (then_one (e 31 13 4 (Variable (x 46))) (no_more))))
      (and_then (statement (at 31 14) (Return (e 31 15 8 (Dereference (e 31 21 18 (Operate operations.Convert
      (then_one (e 31 21 17 (Address (e 31 22 4 (Variable (x 47))))) (no_more)))))))) (done)));
}

abbrev pub body_28 : Body
body_28 = record {
  parameters = name 48 4 ∷ [];
  result = t 2;
  body = (and_then (statement (at 32 10) (Return (e 32 11 2 (Operate (operations.Negate) (then_one (e 32 14 2
      (Operate operations.Convert (then_one (e 32 14 4 (Variable (x 48))) (no_more)))) (no_more)))))) (done));
}

abbrev pub body_29 : Body
body_29 = record {
  parameters = name 49 6 ∷ [];
  result = t 6;
  body = (and_then (statement (at 33 10) (Return (e 33 11 6 (Operate (operations.Negate) (then_one (e 33 12 6
      (Variable (x 49))) (no_more)))))) (done));
}

abbrev pub body_30 : Body
body_30 = record {
  parameters = name 50 2 ∷ [];
  result = t 2;
  body = (and_then (statement (at 34 10) (Return (e 34 14 2 (Operate (operations.Binary operators.Add) (then_one
      (e 34 12 2 (Operate (operations.Binary operators.Multiply) (then_one (e 34 11 2 (Variable (x 50))) (then_one
      (e 34 13 2 (Variable (x 50))) (no_more))))) (then_one (e 34 15 2 (Constant' (constants.Number 2147483647)))
      (no_more))))))) (done));
}

abbrev pub body_31 : Body
body_31 = record {
  parameters = [];
  result = t 2;
  body = (and_then (statement (at 36 7) (Var (name 51 2 ∷ []) (then_one (e 36 12 2 (Constant' (constants.Number 1)))
      (no_more)))) (and_then (statement (at 36 13) (Do (and_then (statement (at 36 14) (Var (name 51 3 ∷ []) (then_one
      (e 36 21 3 (Operate operations.Convert (then_one (e 36 21 2 (Constant' (constants.Number 2))) (no_more))))
      (no_more)))) (and_then (statement (at 36 22) (Assign (then_one (e 36 22 3 (Variable (x 51))) (no_more))
      (then_one (e 36 24 3 (Operate operations.Convert (then_one (e 36 24 2 (Constant' (constants.Number 5)))
      (no_more)))) (no_more)))) (done))))) (and_then (statement (at 36 26) (Return (e 36 27 2 (Variable (x 51)))))
      (done))));
}

abbrev pub body_32 : Body
body_32 = record {
  parameters = name 52 2 ∷ [];
  result = t 2;
  body = (and_then (statement (at 38 10) (Return (e 38 18 2 (Operate (operations.Binary operators.Add) (then_one
      (e 37 8 2 (Let (and_then (statement (at 37 9) (Var (name 53 2 ∷ []) (then_one (e 38 15 2 (Variable (x 52)))
      (no_more)))) (and_then (statement (at 37 13) (Assign (then_one (e 37 13 2 (Variable (x 53))) (no_more))
      (then_one (e 37 16 2 (Operate (operations.Binary operators.Add) (then_one (e 37 15 2 (Variable (x 53)))
      (then_one (e 37 17 2 (Constant' (constants.Number 1))) (no_more))))) (no_more)))) (done))) (e 37 20 2 (Operate
      (operations.Binary operators.Multiply) (then_one (e 37 19 2 (Variable (x 53))) (then_one (e 37 21 2 (Constant'
      (constants.Number 2))) (no_more))))))) (then_one (e 37 8 2 (Let (and_then (statement (at 37 9) (Var (name 54 2 ∷
      []) (then_one (e 38 24 2 (Operate (operations.Binary operators.Add) (then_one (e 38 23 2 (Variable (x 52)))
      (then_one (e 38 25 2 (Constant' (constants.Number 1))) (no_more))))) (no_more)))) (and_then (statement
      (at 37 13) (Assign (then_one (e 37 13 2 (Variable (x 54))) (no_more)) (then_one (e 37 16 2 (Operate
      (operations.Binary operators.Add) (then_one (e 37 15 2 (Variable (x 54))) (then_one (e 37 17 2 (Constant'
      (constants.Number 1))) (no_more))))) (no_more)))) (done))) (e 37 20 2 (Operate
      (operations.Binary operators.Multiply) (then_one (e 37 19 2 (Variable (x 54))) (then_one (e 37 21 2 (Constant'
      (constants.Number 2))) (no_more))))))) (no_more))))))) (done));
}

abbrev pub body_33 : Body
body_33 = record {
  parameters = name 55 2 ∷ [];
  result = t 2;
  body = (and_then (statement (at 39 10) (Var (name 56 14 ∷ []) (no_more))) (and_then (statement (at 39 17) (Assign
      (then_one (e 39 18 2 (Element (e 39 17 14 (Variable (x 56))) (e 39 19 2 (Constant' (constants.Number 0)))))
      (no_more)) (then_one (e 39 22 2 (Constant' (constants.Number 10))) (no_more)))) (and_then (statement (at 39 23)
      (Var (name 57 2 ∷ []) (then_one (e 39 26 2 (Constant' (constants.Number 0))) (no_more)))) (and_then (statement
      (at 39 27) (Assign (then_one (e 39 27 2 (Variable (x 57))) (then_one (e 39 30 2 (Element (e 39 29 14 (Variable
      (x 56))) (e 39 31 2 (Variable (x 57))))) (no_more))) (then_one (e 39 34 2 (Constant' (constants.Number 2)))
      (then_one (e 39 36 2 (Variable (x 55))) (no_more))))) (and_then (statement (at 39 37) (Return (e 39 44 2
      (Operate (operations.Binary operators.Add) (then_one (e 39 42 2 (Operate (operations.Binary operators.Multiply)
      (then_one (e 39 39 2 (Element (e 39 38 14 (Variable (x 56))) (e 39 40 2 (Constant' (constants.Number 0)))))
      (then_one (e 39 43 2 (Constant' (constants.Number 10))) (no_more))))) (then_one (e 39 45 2 (Variable (x 57)))
      (no_more))))))) (done))))));
}

abbrev pub body_34 : Body
body_34 = record {
  parameters = name 58 4 ∷ name 59 4 ∷ [];
  result = t 2;
  body = (and_then (statement (at 40 14) (Var (name 60 2 ∷ []) (then_one (e 40 17 2 (Constant' (constants.Number 0)))
      (no_more)))) (and_then (statement (at 40 18) (For (name 61 2) (then_one (e 40 21 2 (Operate operations.Convert
      (then_one (e 40 21 4 (Variable (x 58))) (no_more)))) (then_one (e 40 23 2 (Constant' (constants.Number 10)))
      (then_one (e 40 25 2 (Operate operations.Convert (then_one (e 40 25 4 (Variable (x 59))) (no_more))))
      (no_more)))) (and_then (statement (at 40 27) (Assign (then_one (e 40 27 2 (Variable (x 60))) (no_more))
      (then_one (e 40 30 2 (Operate (operations.Binary operators.Add) (then_one (e 40 29 2 (Variable (x 60)))
      (then_one (e 40 31 2 (Constant' (constants.Number 1))) (no_more))))) (no_more)))) (done)))) (and_then (statement
      (at 40 33) (Return (e 40 34 2 (Variable (x 60))))) (done))));
}

abbrev pub body_35 : Body
body_35 = record {
  parameters = [];
  result = t 19;
  body = (and_then (statement (at 41 8) (Var (name 62 19 ∷ []) (then_one (e 41 14 19 (Constant' constants.Nil))
      (no_more)))) (and_then (statement (at 41 15) (Return (e 41 21 19 (Operate operations.Convert (then_one
      (e 41 21 20 (Address (e 41 23 1 (Follow 16 (e 41 22 19 (Variable (x 62))))))) (no_more)))))) (done)));
}

abbrev pub body_36 : Body
body_36 = record {
  parameters = name 63 3 ∷ [];
  result = t 3;
  body = (and_then (statement (at 42 10) (Return (e 42 11 3 (Dereference (e 42 17 21 (Operate operations.Convert
      (then_one (e 42 17 3 (Variable (x 63))) (no_more)))))))) (done));
}

abbrev pub sample : Contents
sample = record {
  types = opening_types ++ forms.Array (t 2) 4 ∷ forms.Pointer (t 2) ∷ struct_of 24 8 (laid 0 0 0 ∷ laid 1 8 3 ∷
      laid 2 16 1 ∷ []) ∷ forms.Array (t 2) 3 ∷ struct_of 40 8 (laid 0 0 13 ∷ laid 1 24 14 ∷ []) ∷ forms.Pointer
      (t 15) ∷ forms.Pointer (t 4) ∷ forms.Pointer (t 8) ∷ forms.Pointer (t 13) ∷ forms.Pointer (t 1) ∷ forms.Pointer
      (t 3) ∷ [];
  functions = function 4 1 0 ∷ function 5 1 1 ∷ function 6 1 2 ∷ function 7 1 3 ∷ function 8 1 4 ∷ function 9 1 5 ∷
      function 10 1 6 ∷ function 11 1 7 ∷ function 12 1 8 ∷ function 13 1 9 ∷ function 14 1 10 ∷ function 15 1 11 ∷
      function 16 1 12 ∷ function 17 1 13 ∷ function 18 1 14 ∷ function 19 1 15 ∷ function 20 1 16 ∷
      function 21 1 17 ∷ function 22 1 18 ∷ function 23 1 19 ∷ function 24 1 20 ∷ function 25 1 21 ∷
      function 26 1 22 ∷ function 27 1 23 ∷ function 28 1 24 ∷ function 29 1 25 ∷ function 30 1 26 ∷
      function 31 1 27 ∷ function 32 1 28 ∷ function 33 1 29 ∷ function 34 1 30 ∷ function 36 1 31 ∷
      function 38 1 32 ∷ function 39 1 33 ∷ function 40 1 34 ∷ function 41 1 35 ∷ function 42 1 36 ∷ [];
  statics = record { address = 1073741824; is_text = false; bytes = 7 ∷ 0 ∷ 0 ∷ 0 ∷ [] } ∷ record
      { address = 1073741840; is_text = false; bytes = 104 ∷ 101 ∷ 121 ∷ 0 ∷ [] } ∷ [];
  typed = items.body body_0 ∷ items.body body_1 ∷ items.body body_2 ∷ items.body body_3 ∷ items.body body_4 ∷
      items.body body_5 ∷ items.body body_6 ∷ items.body body_7 ∷ items.body body_8 ∷ items.body body_9 ∷
      items.body body_10 ∷ items.body body_11 ∷ items.body body_12 ∷ items.body body_13 ∷ items.body body_14 ∷
      items.body body_15 ∷ items.body body_16 ∷ items.body body_17 ∷ items.body body_18 ∷ items.body body_19 ∷
      items.body body_20 ∷ items.body body_21 ∷ items.body body_22 ∷ items.body body_23 ∷ items.body body_24 ∷
      items.body body_25 ∷ items.body body_26 ∷ items.body body_27 ∷ items.body body_28 ∷ items.body body_29 ∷
      items.body body_30 ∷ items.body body_31 ∷ items.body body_32 ∷ items.body body_33 ∷ items.body body_34 ∷
      items.body body_35 ∷ items.body body_36 ∷ [];
}

abbrev pub all : List Body
all = body_0 ∷ body_1 ∷ body_2 ∷ body_3 ∷ body_4 ∷ body_5 ∷ body_6 ∷ body_7 ∷ body_8 ∷ body_9 ∷ body_10 ∷ body_11 ∷
    body_12 ∷ body_13 ∷ body_14 ∷ body_15 ∷ body_16 ∷ body_17 ∷ body_18 ∷ body_19 ∷ body_20 ∷ body_21 ∷ body_22 ∷
    body_23 ∷ body_24 ∷ body_25 ∷ body_26 ∷ body_27 ∷ body_28 ∷ body_29 ∷ body_30 ∷ body_31 ∷ body_32 ∷ body_33 ∷
    body_34 ∷ body_35 ∷ body_36 ∷ []

-- Every operator at every width on operands at the edges, computed, against what C's rules with wrapping give. The
-- numbers are
-- those of bench/operators/table.py, which mixes all results of an operator at a width into one.
use Rattle.std.specs.Prelude.{◌≡◌, refl, ℕ, ◌+◌, ◌-◌, ◌*◌, ◌%◌, ◌^◌, Bool, true, false, ◌&&◌, nat_eq, if◌then◌else◌, List, [], ◌∷◌, map}
use Rattle.std.specs.List.{list_all}
use Rattle.terra_words.specs.declared.words.BinaryOperator.{BinaryOperator}
use Rattle.terra_words.specs.declared.words.BinaryOperator.TheVariants.{Add, Subtract, Multiply, Divide, Modulo, Xor, And, Or, ShiftLeft}
use Rattle.terra_words.specs.declared.words.BinaryOperator.TheVariants.{ShiftRight, Equal, NotEqual, Less, LessEqual, Greater, GreaterEqual}
use Rattle.terra_words.specs.declared.words.Width.{Width}
use Rattle.terra_words.specs.Words.{wrapped, applied, divides}

abbrev signed : ℕ → Width
signed bits = record { signed = true; bits = bits }

abbrev unsigned : ℕ → Width
unsigned bits = record { signed = false; bits = bits }

abbrev edges : Width → List ℕ
edges w =
    let half = 2 ^ (w.bits - 1) in
    map (wrapped w) (0 ∷ 1 ∷ 2 ∷ 7 ∷ (half - 2) ∷ (half - 1) ∷ half ∷ (half + 1) ∷ (2 * half - 2) ∷ (2 * half - 1) ∷ [])

abbrev mixed : (total result : ℕ) → ℕ
mixed total result = (total * 1000003 + result) % 2 ^ 64

abbrev over_second : Width → BinaryOperator → ℕ → (total : ℕ) → List ℕ → ℕ
over_second w op x total [] = total
over_second w op x total (y ∷ ys) =
    if divides op && nat_eq y 0 then over_second w op x total ys
    else over_second w op x (mixed total (applied w op x y)) ys

abbrev over_both : Width → BinaryOperator → (total : ℕ) → List ℕ → ℕ
over_both w op total [] = total
over_both w op total (x ∷ xs) = over_both w op (over_second w op x total (edges w)) xs

abbrev is_right : Width × BinaryOperator × ℕ → Bool
is_right row = nat_eq (over_both row.0 row.1 0 (edges row.0)) row.2

abbrev rows : List (Width × BinaryOperator × ℕ)
rows =
    -- int8
    (signed 8, Add, 10823515542319180566) ∷
    (signed 8, Subtract, 310952602958789426) ∷
    (signed 8, Multiply, 13895974599115792645) ∷
    (signed 8, Divide, 16608280660445988626) ∷
    (signed 8, Modulo, 16522362024089795258) ∷
    (signed 8, Xor, 4699727244130263228) ∷
    (signed 8, And, 5848172717716298541) ∷
    (signed 8, Or, 10547899961846561769) ∷
    (signed 8, ShiftLeft, 16450068037441528534) ∷
    (signed 8, ShiftRight, 1027379964611579281) ∷
    (signed 8, Equal, 6983584070905458668) ∷
    (signed 8, NotEqual, 14635870054985020028) ∷
    (signed 8, Less, 10254212387982110989) ∷
    (signed 8, LessEqual, 17237796458887569657) ∷
    (signed 8, Greater, 4381657667002909039) ∷
    (signed 8, GreaterEqual, 11365241737908367707) ∷
    -- uint8
    (unsigned 8, Add, 13272465814009334550) ∷
    (unsigned 8, Subtract, 5158285837299387442) ∷
    (unsigned 8, Multiply, 12285398977915242757) ∷
    (unsigned 8, Divide, 282909016542558163) ∷
    (unsigned 8, Modulo, 3237824066726558966) ∷
    (unsigned 8, Xor, 2911757218849800380) ∷
    (unsigned 8, And, 13407141046497082157) ∷
    (unsigned 8, Or, 16318898265346882537) ∷
    (unsigned 8, ShiftLeft, 1107391853595486678) ∷
    (unsigned 8, ShiftRight, 4698631635999412841) ∷
    (unsigned 8, Equal, 6983584070905458668) ∷
    (unsigned 8, NotEqual, 14635870054985020028) ∷
    (unsigned 8, Less, 17265245376954776525) ∷
    (unsigned 8, LessEqual, 5802085374150683577) ∷
    (unsigned 8, Greater, 15817368751739795119) ∷
    (unsigned 8, GreaterEqual, 4354208748935702171) ∷
    -- int16
    (signed 16, Add, 12653490638930999062) ∷
    (signed 16, Subtract, 3403605975241154354) ∷
    (signed 16, Multiply, 2416515305566329093) ∷
    (signed 16, Divide, 13210968732109360343) ∷
    (signed 16, Modulo, 16205888396324338647) ∷
    (signed 16, Xor, 7386853425721458876) ∷
    (signed 16, And, 5720985335978040109) ∷
    (signed 16, Or, 13107838761699498985) ∷
    (signed 16, ShiftLeft, 5097002305827736406) ∷
    (signed 16, ShiftRight, 3303507346949991665) ∷
    (signed 16, Equal, 6983584070905458668) ∷
    (signed 16, NotEqual, 14635870054985020028) ∷
    (signed 16, Less, 10254212387982110989) ∷
    (signed 16, LessEqual, 17237796458887569657) ∷
    (signed 16, Greater, 4381657667002909039) ∷
    (signed 16, GreaterEqual, 11365241737908367707) ∷
    -- uint16
    (unsigned 16, Add, 12395461685485664022) ∷
    (unsigned 16, Subtract, 8389061027894288178) ∷
    (unsigned 16, Multiply, 14384269973545244933) ∷
    (unsigned 16, Divide, 3628010469755188168) ∷
    (unsigned 16, Modulo, 13031804130421956419) ∷
    (unsigned 16, Xor, 10835128796661760188) ∷
    (unsigned 16, And, 3908749764355726125) ∷
    (unsigned 16, Or, 14743878561017486313) ∷
    (unsigned 16, ShiftLeft, 11155421463674325846) ∷
    (unsigned 16, ShiftRight, 9564482941129985825) ∷
    (unsigned 16, Equal, 6983584070905458668) ∷
    (unsigned 16, NotEqual, 14635870054985020028) ∷
    (unsigned 16, Less, 17265245376954776525) ∷
    (unsigned 16, LessEqual, 5802085374150683577) ∷
    (unsigned 16, Greater, 15817368751739795119) ∷
    (unsigned 16, GreaterEqual, 4354208748935702171) ∷
    -- int32
    (signed 32, Add, 8476477821450090262) ∷
    (signed 32, Subtract, 7667142160240172850) ∷
    (signed 32, Multiply, 10873283989432129797) ∷
    (signed 32, Divide, 12162898598903566866) ∷
    (signed 32, Modulo, 14350896560830764858) ∷
    (signed 32, Xor, 5197390241322844348) ∷
    (signed 32, And, 12630575476615715629) ∷
    (signed 32, Or, 17827965717938559977) ∷
    (signed 32, ShiftLeft, 11566125842088659798) ∷
    (signed 32, ShiftRight, 3607855781637541105) ∷
    (signed 32, Equal, 6983584070905458668) ∷
    (signed 32, NotEqual, 14635870054985020028) ∷
    (signed 32, Less, 10254212387982110989) ∷
    (signed 32, LessEqual, 17237796458887569657) ∷
    (signed 32, Greater, 4381657667002909039) ∷
    (signed 32, GreaterEqual, 11365241737908367707) ∷
    -- uint32
    (unsigned 32, Add, 13955300419631740694) ∷
    (unsigned 32, Subtract, 5718439292440239922) ∷
    (unsigned 32, Multiply, 10978678672945010949) ∷
    (unsigned 32, Divide, 1813565211733648339) ∷
    (unsigned 32, Modulo, 14624385340084276982) ∷
    (unsigned 32, Xor, 310453169192779964) ∷
    (unsigned 32, And, 6098500178739764013) ∷
    (unsigned 32, Or, 6408953347932543977) ∷
    (unsigned 32, ShiftLeft, 8404611951785216854) ∷
    (unsigned 32, ShiftRight, 410150862519453473) ∷
    (unsigned 32, Equal, 6983584070905458668) ∷
    (unsigned 32, NotEqual, 14635870054985020028) ∷
    (unsigned 32, Less, 17265245376954776525) ∷
    (unsigned 32, LessEqual, 5802085374150683577) ∷
    (unsigned 32, Greater, 15817368751739795119) ∷
    (unsigned 32, GreaterEqual, 4354208748935702171) ∷
    -- int64
    (signed 64, Add, 16314192305085118230) ∷
    (signed 64, Subtract, 13537076179886497586) ∷
    (signed 64, Multiply, 17775021246959540485) ∷
    (signed 64, Divide, 6415982830332333271) ∷
    (signed 64, Modulo, 4807918773697117143) ∷
    (signed 64, Xor, 4906210012912763068) ∷
    (signed 64, And, 5703991146086177581) ∷
    (signed 64, Or, 10610201158998940649) ∷
    (signed 64, ShiftLeft, 7281042002423647062) ∷
    (signed 64, ShiftRight, 7411516749441944817) ∷
    (signed 64, Equal, 6983584070905458668) ∷
    (signed 64, NotEqual, 14635870054985020028) ∷
    (signed 64, Less, 10254212387982110989) ∷
    (signed 64, LessEqual, 17237796458887569657) ∷
    (signed 64, Greater, 4381657667002909039) ∷
    (signed 64, GreaterEqual, 11365241737908367707) ∷
    -- uint64
    (unsigned 64, Add, 16314192305085118230) ∷
    (unsigned 64, Subtract, 13537076179886497586) ∷
    (unsigned 64, Multiply, 17775021246959540485) ∷
    (unsigned 64, Divide, 10660767369444717512) ∷
    (unsigned 64, Modulo, 126167960121696067) ∷
    (unsigned 64, Xor, 4906210012912763068) ∷
    (unsigned 64, And, 5703991146086177581) ∷
    (unsigned 64, Or, 10610201158998940649) ∷
    (unsigned 64, ShiftLeft, 7281042002423647062) ∷
    (unsigned 64, ShiftRight, 4008142637021972257) ∷
    (unsigned 64, Equal, 6983584070905458668) ∷
    (unsigned 64, NotEqual, 14635870054985020028) ∷
    (unsigned 64, Less, 17265245376954776525) ∷
    (unsigned 64, LessEqual, 5802085374150683577) ∷
    (unsigned 64, Greater, 15817368751739795119) ∷
    (unsigned 64, GreaterEqual, 4354208748935702171) ∷
    []

pub operators_are_right : list_all is_right rows ≡ true
unfolding wrapped applied
operators_are_right = refl

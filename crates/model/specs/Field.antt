-- Fields of a value: their types, the numbers that fit them, reading and writing.
use Rattle.std.specs.Prelude.{ℕ, suc, ◌+◌, ◌-◌, ◌/◌, ◌%◌, ◌^◌, Bool, cond, ◌&&◌, List, length, leb, ltb, ℤ, pos, negsuc, neg_ℤ}
use Rattle.std.proofs.lemmas.List.Edits.{sets}
use Rattle.std.specs.Int.Signed.{le_z}
use Rattle.model.specs.Bytes.{padded}
use Rattle.model.specs.Bits.{from_bits, to_bits, bits_of, bytes_of, bits_at}

-- ---- types

-- a field's type: signed (i) or not (u), and its width in bits
pub record IntType : Type 0 where
  pub signed : Bool
  pub width : ℕ

-- types are i1 to i64 and u1 to u63
abbrev pub is_int_type : IntType → Bool
is_int_type i = leb 1 i.width && leb i.width (cond i.signed 64 63)

-- how many numbers a type has
abbrev pub modulus : IntType → ℕ
modulus i = 2 ^ i.width

-- how many of them are below 0
abbrev pub negatives : IntType → ℕ
negatives i = cond i.signed (2 ^ (i.width - 1)) 0

abbrev pub least : IntType → ℤ
least i = neg_ℤ (pos (negatives i))

abbrev pub greatest : IntType → ℤ
greatest i = pos (modulus i - negatives i - 1)

-- whether a number fits a type
abbrev pub fits : IntType → ℤ → Bool
fits i z = le_z (least i) z && le_z z (greatest i)

-- ---- two's complement

-- z modulo m, as a number from 0 to m - 1
abbrev pub modulo : ℤ → ℕ → ℕ
modulo (pos n) m = n % m
modulo (negsuc n) m = m - suc (n % m)

-- the number that the bits x mean in a field of this type; from modulus - negatives on it is x - modulus
unfoldable pub meaning : IntType → ℕ → ℤ
meaning i x = cond (ltb x (modulus i - negatives i)) (pos x) (negsuc (modulus i - suc x))

-- ---- reading and writing

-- a field's type and its first bit; bit 0 is the top bit of byte 0
pub record Field : Type 0 where
  pub type : IntType
  pub offset : ℕ

abbrev pub field : IntType → ℕ → Field
field i at = record { type = i; offset = at }

-- the bit after the field's last
abbrev pub end_bit : Field → ℕ
end_bit f = f.offset + f.type.width

-- the byte that holds the field's last bit
abbrev pub last_byte : Field → ℕ
last_byte f = (end_bit f - 1) / 8

-- the bits of a field as a number; past the end they are 0
unfoldable pub field_bits : Field → List ℕ → ℕ
field_bits f v = from_bits (bits_at f.offset f.type.width (bits_of v))

-- the number in a field
abbrev pub get_field : Field → List ℕ → ℤ
get_field f v = meaning f.type (field_bits f v)

-- the value, grown with zeros to the field's last byte if it is shorter
abbrev pub grown : Field → List ℕ → List ℕ
grown f v = padded (suc (last_byte f)) v

-- the value, grown to the field's last byte, with the low bits of x in the field
unfoldable pub set_field_bits : Field → ℕ → List ℕ → List ℕ
set_field_bits f x v = bytes_of (length (grown f v)) (sets (bits_of (grown f v)) f.offset (to_bits f.type.width x))

-- the value with the number z in a field
abbrev pub set_field : Field → ℤ → List ℕ → List ℕ
set_field f z v = set_field_bits f (modulo z (modulus f.type)) v

-- Payloads are read back.
use Rattle.std.proofs.Common.{◌≡◌, ◌<◌, ℕ, List, [], ◌∷◌, true, refl, ◌∙◌, ap, length}
use Rattle.std.proofs.Math.Seq.{take-length}
use Rattle.std.proofs.lemmas.List.{take_at, drop_at}
use Rattle.std.proofs.lemmas.Nat.{from_be_bytes-to_be_bytes_8}
use Rattle.std.specs.List.{flat_map}
use Rattle.byteorder.specs.Endian.{big_bytes}
use Rattle.arj_class.specs.Forms.{NumbersFit, PairsFit, ValueInForm}
use Rattle.arj_class.specs.Keys.{pair_bytes}
use Rattle.arj_base.specs.State.{is_object_class}
use Rattle.arj_protocol.specs.Words.{Class, Value, Entry, class_code_of, class_of, payload_of, entry_payload}
use Rattle.arj_protocol.specs.Words.class
use Rattle.arj_protocol.specs.Words.value
use Rattle.arj_protocol.specs.Values.{gone_class, number_in, numbers_in, in_pairs, value_in, stores_in, entry_in}

number_back : (n : ℕ) → n < 18446744073709551616 → number_in (big_bytes 8 n) ≡ n
number_back n fits = from_be_bytes-to_be_bytes_8 n fits

numbers_back : (ns : List ℕ) → NumbersFit ns → numbers_in (flat_map (big_bytes 8) ns) ≡ ns
numbers_back [] fit = refl
numbers_back (n ∷ ns) fit = λ i. number_back n fit.0 i ∷ numbers_back ns fit.1 i

pairs_back : (ps : List (ℕ × ℕ)) → PairsFit ps → in_pairs (numbers_in (flat_map pair_bytes ps)) ≡ ps
pairs_back [] fit = refl
pairs_back (p ∷ ps) fit = λ i. (number_back p.0 fit.0 i, number_back p.1 fit.1 i) ∷ pairs_back ps fit.2 i

class_back : (c : Class) → is_object_class c ≡ true → gone_class (class_code_of c ∷ []) ≡ c
class_back class.Entry is = cc
class_back class.Counter is = refl
class_back class.Register is = refl
class_back class.Account is = refl
class_back class.Queue is = refl
class_back class.Table is = refl
class_back class.Gone is = cc

pub value_back : (v : Value) → ValueInForm v → value_in (class_of v) (payload_of v) ≡ v
value_back (value.Counter n) fits = ap value.Counter (number_back n fits)
value_back (value.Register bytes) fits = refl
value_back (value.Account n) fits = ap value.Account (number_back n fits)
value_back (value.Queue ns) fits = ap value.Queue (numbers_back ns fits.1)
value_back (value.Table ps) fits = ap value.Table (pairs_back ps fits.2)
value_back (value.Gone c) fits = ap value.Gone (class_back c fits)

pub entry_back : (e : Entry) → entry_in (entry_payload e) ≡ e
entry_back e = λ i. record {
  servers = take_at e.servers (length e.stores ∷ e.stores) (length e.servers) refl i;
  stores = (ap stores_in (drop_at e.servers (length e.stores ∷ e.stores) (length e.servers) refl) ∙ take-length e.stores) i;
}

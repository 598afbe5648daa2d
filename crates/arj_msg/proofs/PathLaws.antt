-- Two paths are one where their Uids and their numbers of tops are, and each list of 1 to 16 Uids is that of a path.
use Rattle.std.proofs.Common.{◌≡◌, ℕ, ◌-◌, ◌<◌, ◌≤◌, zero, suc, List, [], ◌∷◌, ◌++◌, length, take, drop, replicate, sym, ap, refl, ◌∙◌}
use Rattle.std.proofs.Common.{arith, Bool, true, false, nat_le, if◌then◌else◌}
use Rattle.std.proofs.Props.{props}
use Rattle.std.proofs.lemmas.List.{take-append-drop, take_at, length-take-le}
use mathlib.Core.HLevel.{is_prop→PathP}
use Rattle.std.proofs.lemmas.Bool.{le-leb, leb-false}
use Rattle.std.proofs.Math.Bridge.{le_prop}
use Rattle.arj_base.specs.declared.path.Path.{Path}
use Rattle.arj_base.specs.declared.uid.Uid.{Uid}
use Rattle.arj_base.specs.Path.{uids_of, tops_of}
use Rattle.arj_base.specs.Uid.{nobody}
use Rattle.arj_msg.specs.Head.{path_of, path_if}

whole_prop : (us : List Uid) → IsProp (length us ≡ 16)
whole_prop us = Prim.hlevel props

padded_prop : (len : ℕ) (us : List Uid) → IsProp (drop len us ≡ replicate (16 - len) nobody)
padded_prop len us = Prim.hlevel props

same_fields : (p q : Path) → p.uids ≡ q.uids → p.len ≡ q.len → p.tops ≡ q.tops → p ≡ q
same_fields p q us len tops = λ i. record {
  uids = us i;
  len = len i;
  tops = tops i;
  whole = is_prop→PathP (λ j. length (us j) ≡ 16) (λ j. whole_prop (us j)) p.whole q.whole i;
  some = is_prop→PathP (λ j. 1 ≤ len j) (λ j. le_prop) p.some q.some i;
  most = is_prop→PathP (λ j. len j ≤ 16) (λ j. le_prop) p.most q.most i;
  padded = is_prop→PathP (λ j. drop (len j) (us j) ≡ replicate (16 - len j) nobody) (λ j. padded_prop (len j) (us j)) p.padded q.padded i;
  one_top = is_prop→PathP (λ j. 1 ≤ tops j) (λ j. le_prop) p.one_top q.one_top i;
  two_tops = is_prop→PathP (λ j. tops j ≤ 2) (λ j. le_prop) p.two_tops q.two_tops i;
  within = is_prop→PathP (λ j. tops j ≤ len j) (λ j. le_prop) p.within q.within i;
}

pub same_path : (p q : Path) → p.len ≡ q.len → uids_of p ≡ uids_of q → tops_of p ≡ tops_of q → p ≡ q
same_path p q len uids tops =
    let behind : drop p.len p.uids ≡ drop q.len q.uids = p.padded ∙ ap (λ n. replicate (16 - n) nobody) len ∙ sym q.padded in
    same_fields p q (sym (take-append-drop p.len p.uids) ∙ (λ i. uids i ++ behind i) ∙ take-append-drop q.len q.uids) len tops

-- the tests hold, so the path has these Uids
pub record Makes (p : Path) (us : List Uid) (tops : ℕ) : Type 0 where
  pub has : uids_of p ≡ us
  pub ends_with : tops_of p ≡ tops
  pub len : p.len ≡ length us

is_made : (us : List Uid) (tops : ℕ) (a b c d e : Bool) (some : nat_le 1 (length us) ≡ a) (most : nat_le (length us) 16 ≡ b) (one : nat_le 1 tops ≡ c) (two : nat_le tops 2 ≡ d) (within : nat_le tops (length us) ≡ e)
    → 1 ≤ length us → length us ≤ 16 → 1 ≤ tops → tops ≤ 2 → tops ≤ length us →
    Makes (path_if us tops a b c d e some most one two within) us tops
is_made us tops true true true true true some most one two within h1 h2 h3 h4 h5 = record {
  has = take_at us (replicate (16 - length us) nobody) (length us) refl;
  ends_with = refl;
  len = refl;
}
is_made us tops false b c d e some most one two within h1 h2 h3 h4 h5 = let no : true ≡ false = sym (le-leb _ _ h1) ∙ some in absurd cc
is_made us tops true false c d e some most one two within h1 h2 h3 h4 h5 = let no : true ≡ false = sym (le-leb _ _ h2) ∙ most in absurd cc
is_made us tops true true false d e some most one two within h1 h2 h3 h4 h5 = let no : true ≡ false = sym (le-leb _ _ h3) ∙ one in absurd cc
is_made us tops true true true false e some most one two within h1 h2 h3 h4 h5 =
    let no : true ≡ false = sym (le-leb _ _ h4) ∙ two in absurd cc
is_made us tops true true true true false some most one two within h1 h2 h3 h4 h5 =
    let no : true ≡ false = sym (le-leb _ _ h5) ∙ within in absurd cc

pub path_is : (us : List Uid) (tops : ℕ) → 1 ≤ length us → length us ≤ 16 → 1 ≤ tops → tops ≤ 2 → tops ≤ length us →
    Makes (path_of us tops) us tops
path_is us tops h1 h2 h3 h4 h5 = is_made us tops _ _ _ _ _ refl refl refl refl refl h1 h2 h3 h4 h5

-- the array holds as many Uids as the path has
long_as : (p : Path) → length (uids_of p) ≡ p.len
long_as p = length-take-le p.len p.uids (omega (arith, p.whole, p.most))

-- a path is the one of its Uids and of its number of tops
pub path_again : (p : Path) (us : List Uid) (tops : ℕ) → uids_of p ≡ us → tops_of p ≡ tops → p ≡ path_of us tops
path_again p us tops uids tops_is =
    let size : length us ≡ p.len = ap length (sym uids) ∙ long_as p in
    let is = path_is us tops (omega (arith, size, p.some)) (omega (arith, size, p.most)) (omega (arith, tops_is, p.one_top)) (omega (arith, tops_is, p.two_tops)) (omega (arith, tops_is, size, p.within)) in
    same_path p (path_of us tops) (sym (is.len ∙ size)) (uids ∙ sym is.has) (tops_is ∙ sym is.ends_with)

pub take_whole : (us : List Uid) (n : ℕ) → length us ≤ n → take n us ≡ us
take_whole [] zero le = refl
take_whole [] (suc n) le = refl
take_whole (u ∷ us) zero le = absurd (omega (arith, le))
take_whole (u ∷ us) (suc n) le = ap (λ ws. u ∷ ws) (take_whole us n (omega (arith, le)))

-- behind the last Uid the number of tops is the one asked for
pub tops_end : (i count tops now : ℕ) → count ≤ i → 1 ≤ tops → tops ≤ count → now ≡ (if nat_le 2 i then tops else 1) → now ≡ tops
tops_end i count tops now end one within is = by (nat_le 2 i) refl is
  where
    by : (t : Bool) → nat_le 2 i ≡ t → now ≡ (if t then tops else 1) → now ≡ tops
    by true test is = is
    by false test is = let less : i < 2 = leb-false 2 i test in omega (arith, less, end, one, within, is)

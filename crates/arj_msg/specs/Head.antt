-- Paths, and the heads of requests and answers.
use Rattle.std.specs.Prelude.{◌≡◌, ℕ, ◌+◌, ◌-◌, ◌≤◌, List, [], ◌∷◌, ◌++◌, length, replicate, min, Bool, true, nat_le}
use Rattle.std.proofs.Common.{refl, ap, ◌∙◌}
use Rattle.std.proofs.lemmas.Bool.{leb-true}
use Rattle.std.proofs.lemmas.List.{drop_at, length-append, length-replicate}
use Rattle.std.proofs.Math.Nat.{add-sub_of_le}
use Rattle.arj_base.specs.declared.uid.Uid.{Uid}
use Rattle.arj_base.specs.declared.path.Path.{Path}
use Rattle.arj_base.specs.Path.{uids_of, tops_of}
use Rattle.arj_base.specs.Uid.{nobody}
use Rattle.arj_msg.specs.declared.message.Head.{Head}
use Rattle.arj_msg.specs.declared.message.Asked.{Asked}
use Rattle.arj_msg.specs.Format.{Format, byte, both, chain, many, shaped}
use Rattle.arj_msg.specs.Fields.{number4, uid}

-- the path of these Uids and tops, filled up with nobody to 16, where the counts are known to be allowed
abbrev pub path_with : (us : List Uid) (tops : ℕ) → 1 ≤ length us → length us ≤ 16 → 1 ≤ tops → tops ≤ 2 → tops ≤ length us → Path
path_with us tops some most one two within = record {
  uids = us ++ replicate (16 - length us) nobody;
  len = length us;
  tops = tops;
  whole = length-append us (replicate (16 - length us) nobody) ∙ ap (λ n. length us + n) (length-replicate (16 - length us) nobody) ∙ add-sub_of_le most;
  some = some;
  most = most;
  padded = drop_at us (replicate (16 - length us) nobody) (length us) refl;
  one_top = one;
  two_tops = two;
  within = within;
}

-- the path of one Uid, where the tests fail
abbrev pub path_if : (us : List Uid) (tops : ℕ) (a b c d e : Bool) → nat_le 1 (length us) ≡ a → nat_le (length us) 16 ≡ b →
    nat_le 1 tops ≡ c → nat_le tops 2 ≡ d → nat_le tops (length us) ≡ e → Path
path_if us tops true true true true true some most one two within =
    path_with us tops (leb-true _ _ some) (leb-true _ _ most) (leb-true _ _ one) (leb-true _ _ two) (leb-true _ _ within)
path_if us tops _ _ _ _ _ some most one two within =
    path_with (nobody ∷ []) 1 (leb-true _ _ refl) (leb-true _ _ refl) (leb-true _ _ refl) (leb-true _ _ refl) (leb-true _ _ refl)

-- the path with these Uids and this number of tops, where there is one
abbrev pub path_of : List Uid → ℕ → Path
path_of us tops =
    path_if us tops (nat_le 1 (length us)) (nat_le (length us) 16) (nat_le 1 tops) (nat_le tops 2) (nat_le tops (length us)) refl refl refl refl refl

-- a path taken apart: the count of its Uids, the Uids, and the number of its tops
abbrev pub path_parts : Path → (count : ℕ) × (List Uid × ℕ)
path_parts p = (length (uids_of p), (uids_of p, tops_of p))

-- 1 to 16 Uids behind their count, and the number of tops, 1 or 2 and at most the count
abbrev pub path_form : Format ((count : ℕ) × (List Uid × ℕ))
path_form = chain (byte 1 16) (λ count. both (many uid count) (byte 1 (min count 2)))

-- the path made of a count of Uids, the Uids and the number of tops; the count itself isn't asked
abbrev pub path_made : (count : ℕ) × (List Uid × ℕ) → Path
path_made p = path_of p.1.0 p.1.1

-- a path: the count of its Uids in one byte, the Uids, and the number of its tops in one byte
unfoldable pub path : Format Path
path = shaped path_made path_parts path_form

-- the head of a request: the path of the asking action, and the request number
unfoldable pub head : Format Head
head = shaped (λ p. record { path = p.0; req = p.1 }) (λ h. (h.path, h.req)) (both path number4)

-- the head of an answer: the Uid of the action that had asked, and the number of its request
unfoldable pub asked : Format Asked
asked = shaped (λ p. record { act = p.0; req = p.1 }) (λ a. (a.act, a.req)) (both uid number4)

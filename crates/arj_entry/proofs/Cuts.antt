-- Lists of nodes behind their counts cut bytes in one way.
use Rattle.std.proofs.Common.{◌≡◌, ℕ, List, [], ◌++◌, length, take, drop, get_or, ap, sym, ◌∙◌}
use Rattle.std.proofs.lemmas.List.{append-nil}
use Rattle.std.proofs.Math.Seq.{take-append_seam, drop-append_seam}
use Rattle.arj_entry.specs.Entry.{nodes_bytes, entry_payload}
use Rattle.arj_entry.specs.declared.entry.Entry.{Entry}

-- the first list and what stands behind it
pub cut_once : (xs ys us vs : List ℕ) → nodes_bytes xs ++ us ≡ nodes_bytes ys ++ vs → (xs ≡ ys) × (us ≡ vs)
cut_once xs ys us vs same =
    let size : length xs ≡ length ys = ap (λ bytes. get_or bytes 0 0) same in
    let behind : xs ++ us ≡ ys ++ vs = ap (drop 1) same in (
      sym (take-append_seam xs us) ∙ (λ i. take (size i) (behind i)) ∙ take-append_seam ys vs,
      sym (drop-append_seam xs us) ∙ (λ i. drop (size i) (behind i)) ∙ drop-append_seam ys vs,
    )

-- what stands behind the servers of an entry's payload
pub stores_behind : (w : Entry) (servers behind payload : List ℕ) → payload ≡ nodes_bytes servers ++ behind → entry_payload w ≡ payload →
    (w.servers ≡ servers) × (nodes_bytes w.stores ++ [] ≡ behind)
stores_behind w servers behind payload cut same =
    let both = cut_once w.servers servers (nodes_bytes w.stores) behind (same ∙ cut) in
    (both.0, append-nil (nodes_bytes w.stores) ∙ both.1)

-- the whole of an entry's payload
pub entry_once : (w : Entry) (servers stores behind rest payload : List ℕ) → payload ≡ nodes_bytes servers ++ behind →
    behind ≡ nodes_bytes stores ++ rest → entry_payload w ≡ payload
    → (w.servers ≡ servers) × (w.stores ≡ stores) × ([] ≡ rest)
entry_once w servers stores behind rest payload cut cut' same =
    let first = stores_behind w servers behind payload cut same in
    let second = cut_once w.stores stores [] rest (first.1 ∙ cut') in
    (first.0, second.0, second.1)

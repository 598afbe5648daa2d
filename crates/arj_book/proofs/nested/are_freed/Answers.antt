use Rattle.std.proofs.Common.{◌≡◌, ◌++◌, ◌∷◌, ◌∙◌, ◌+◌, [], map, drop, filter, ap, sym}
use Rattle.std.specs.Prelude.{not}
use Rattle.std.specs.List.{list_all}
use Rattle.std.proofs.lemmas.List.{drop_more}
use Rattle.arj_book.proofs.Steps.{freed_step, push_map}
use Rattle.arj_book.specs.Kept.{are_past, call_in_lines, commits_of, key_freed, keys_freed}
use Rattle.arj_replay.specs.Sorting.{last_of}
use Rattle.arj_book.proofs.nested.are_freed.Goals as goal

pub loop-key-preserved : goal.loop-key-preserved
loop-key-preserved c =
    let keys = c.args.keys.now in
    let at = c.loop-key.key-index in
    let key = c.key-item.result in
    let call = call_in_lines c.args.lines.now in
    let left = c.loop-key.left.items in
    let rest : drop at keys ≡ key ∷ drop (at + 1) keys =
    drop_more keys at key c.loop-key-test.true ∙ (λ i. sym c.key-item.is i ∷ drop (at + 1) keys) in
    let test : c.is_freed_by.result ≡ list_all (λ d. key_freed call d key.items) (map (λ k. k.items) left) =
    c.is_freed_by.ensures ∙ (λ i. list_all (λ d. key_freed call d (c.as_slice-in-loop-key.ensures.value i)) (map (λ k. k.items) (c.as_slice.ensures.value i))) in
    let after : map (λ k. k.items) c.push.new.self.items
    ≡ filter (λ d. not (are_past (commits_of d) [] (last_of key.items))) (map (λ k. k.items) left) ++ key.items ∷ [] =
    ap (map (λ k. k.items)) c.in_ok-push.ensures.items ∙ push_map (λ k. k.items) c.close.new.left.items c.in_ok-copy.copy
    ∙ (λ i. c.close.ensures i ++ (c.in_ok-copy.ensures ∙ c.as_slice-in-loop-key-3.ensures.value) i ∷ [])
    ∙ (λ i. filter (λ d. not (are_past (commits_of d) [] ((c.last_of.ensures ∙ ap last_of c.as_slice-in-loop-key-2.ensures.value) i))) (map (λ k. k.items) left) ++ key.items ∷ []) in
    freed_step call (map (λ k. k.items) left) (map (λ k. k.items) c.push.new.self.items) key.items (map (λ k. k.items) (drop (at + 1) keys))
    c.is_freed_by.result test c.if-not-is_freed_by.false after
    ∙ ap (λ ks. keys_freed call (map (λ k. k.items) left) (map (λ k. k.items) ks)) (sym rest) ∙ c.loop-key.invariant

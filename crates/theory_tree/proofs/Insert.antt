-- What an insertion does to the versions of every key, with and without division.
-- Assumes nothing.
use mathlib.Core.Path.{◌≡◌, sym, ap, ◌∙◌}
use mathlib.Core.Bool.{false}
use Rattle.store.specs.Pick.{pick}
use Rattle.leaf.specs.Rows.{Row}
use Rattle.theory_tree.specs.Shape.{Shape, leaf, chain, All, KeysIn, Sorted, Bounded}
use Rattle.theory_tree.specs.Versions.{of_version, arrivals}
use mathlib.Core.List.{List, [], ◌∷◌, ◌++◌, append_assoc}
use Prim.Native.Nat.{ℕ, ◌≤◌, ◌<◌}
use native.Mathlib.Omega.{arith}
use borrow.Author.Tests.{ne_eqb}
use Rattle.theory_tree.proofs.Contexts.{top_key, top, plug, pre_c, post_c, lo_c, hi_c, Loc, loc, place}
use Rattle.theory_tree.proofs.Lists.{all_app, all_map}
use Rattle.theory_tree.proofs.Zip.{plug_chain, unplug_bnd, loc_plug, Fine, loc_fine}
use Rattle.theory_tree.proofs.Place.{Past, Placed, placed, place_srt, place_btw}
use Rattle.theory_tree.proofs.Abs.{ver_insert}

abbrev pub way : Row → Shape → Loc
way x t = loc x.key t top

pub record Way (x : Row) (t : Shape) : Type 0 where
  pub back : plug (way x t).ctx (leaf (way x t).page (way x t).cells) ≡ t
  pub fine : Fine x.key 0 top_key (way x t).ctx
  pub inner : KeysIn (lo_c 0 (way x t).ctx) (hi_c top_key (way x t).ctx) (way x t).cells × Sorted (way x t).cells

pub way_ok : (x : Row) (t : Shape) → x.key ≤ top_key → Bounded 0 top_key t → Way x t
way_ok x t k h =
    let b : plug (way x t).ctx (leaf (way x t).page (way x t).cells) ≡ t = loc_plug x.key t top in
    let u = unplug_bnd 0 top_key (way x t).ctx (leaf (way x t).page (way x t).cells) (rw b h) in
    record { back = b; fine = loc_fine x.key 0 top_key t top tt h (record { low = omega arith; high = k; behind = tt }); inner = u.1 }

-- the new cells of the leaf are in bounds and in order
pub way_cells : (x : Row) (t : Shape) → Way x t
    → KeysIn (lo_c 0 (way x t).ctx) (hi_c top_key (way x t).ctx) (place x (way x t).cells) × Sorted (place x (way x t).cells)
way_cells x t y = (
  place_btw (lo_c 0 (way x t).ctx) (hi_c top_key (way x t).ctx) x (way x t).cells y.fine.low y.fine.high y.inner.0 y.inner.1,
  place_srt x (way x t).cells y.inner.1,
)

way_placed : (x : Row) (t t' : Shape) → Way x t → chain t' ≡ pre_c (way x t).ctx ++ (place x (way x t).cells ++ post_c (way x t).ctx)
    → (k c : ℕ) → Placed x (way x t).cells → arrivals k c (chain t') ≡ arrivals k c (chain t) ++ pick (of_version k c x) (x ∷ []) []
way_placed x t t' y e k c r =
    let g : List Row = pre_c (way x t).ctx in
    let o : List Row = post_c (way x t).ctx in
    let old : chain t ≡ (g ++ r.pre) ++ (r.post ++ o) =
    ap chain (sym y.back) ∙ plug_chain (way x t).ctx (leaf (way x t).page (way x t).cells) ∙ rw r.old (simp append_assoc) in
    let new : chain t' ≡ (g ++ r.pre) ++ (x ∷ (r.post ++ o)) = e ∙ rw r.new (simp append_assoc) in
    let free : All (λ z. of_version x.key x.creator z ≡ false) (r.post ++ o) =
    all_app (λ z. of_version x.key x.creator z ≡ false) r.post o
    (all_map (Past x) (λ z. of_version x.key x.creator z ≡ false) (λ z p. p.1) r.post r.behind)
    (all_map (λ z. x.key < z.key) (λ z. of_version x.key x.creator z ≡ false) (λ z l. rw (ne_eqb z.key x.key (λ q. omega arith))) o y.fine.behind) in
    rw (old, new) (ver_insert k c x (g ++ r.pre) (r.post ++ o) free)

-- any tree with the new chain has x behind its equals and all else as before
pub way_versions : (x : Row) (t t' : Shape) → Way x t → chain t' ≡ pre_c (way x t).ctx ++ (place x (way x t).cells ++ post_c (way x t).ctx)
    → (k c : ℕ) → arrivals k c (chain t') ≡ arrivals k c (chain t) ++ pick (of_version k c x) (x ∷ []) []
way_versions x t t' y e k c = way_placed x t t' y e k c (placed x (way x t).cells y.inner.1)

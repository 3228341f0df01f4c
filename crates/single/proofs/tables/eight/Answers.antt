-- `single::tables::eight` meets its contract: an entry of each table.
use mathlib.Core.Path.{◌≡◌, refl, sym, ap, ap₂, ◌∙◌, subst}
use mathlib.Core.List.{List, [], ◌∷◌}
use Prim.Native.Nat.{ℕ, ◌/◌, ◌%◌}
use native.Mathlib.Omega.{arith}
use lib.Bits.{bit_xor}
use lib.ListN.{get_or}
use Rattle.register.proofs.Slicing.{late}
use Rattle.single.specs.Paired.{Paired}
use Rattle.single.proofs.Compiled.{looked, read, paired, reversed}
use Rattle.single.proofs.tables.eight.Goals as goal

pub returns : goal.returns
returns c =
    let x : List ℕ = c.args.x % 256 ∷ c.args.x / 256 % 256 ∷ c.args.x / 65536 % 256 ∷ c.args.x / 16777216 % 256 ∷ [] in
    let at : (i : ℕ) → get_or c.to_le_bytes.result i 0 ≡ get_or x i 0 = λ i. ap (λ (l : List ℕ). get_or l i 0) c.to_le_bytes.ensures in
    let low =
    ap₂ bit_xor (ap₂ bit_xor (ap₂ bit_xor
    (read 0 _ c.args.d _ (omega arith) refl (omega arith) (c.entry.ensures.near (omega arith)) (c.entry.ensures.far (omega arith)))
    (read 1 _ c.args.c _ (omega arith) refl (omega arith) (c.entry-2.ensures.near (omega arith)) (c.entry-2.ensures.far (omega arith))))
    (read 2 _ c.args.b _ (omega arith) refl (omega arith) (c.entry-3.ensures.near (omega arith)) (c.entry-3.ensures.far (omega arith))))
    (read 3 _ c.args.a _ (omega arith) refl (omega arith) (c.entry-4.ensures.near (omega arith)) (c.entry-4.ensures.far (omega arith))) in
    subst (λ (n : ℕ). Paired n (c.args.x % 256 ∷ c.args.x / 256 % 256 ∷ c.args.x / 65536 % 256 ∷ c.args.x / 16777216 % 256 ∷ c.args.a ∷ c.args.b ∷ c.args.c ∷ c.args.d ∷ []))
    (sym (ap₂ bit_xor (ap₂ bit_xor (ap₂ bit_xor (ap₂ bit_xor low
    (read 7 _ (c.args.x % 256) _ (omega arith) (at 0) (omega arith) (c.entry-5.ensures.near (omega arith)) (c.entry-5.ensures.far (omega arith))))
    (read 6 _ (c.args.x / 256 % 256) _ (omega arith) (at 1) (omega arith) (c.entry-6.ensures.near (omega arith)) (c.entry-6.ensures.far (omega arith))))
    (read 5 _ (c.args.x / 65536 % 256) _ (omega arith) (at 2) (omega arith) (c.entry-7.ensures.near (omega arith)) (c.entry-7.ensures.far (omega arith))))
    (read 4 _ (c.args.x / 16777216 % 256) _ (omega arith) (at 3) (omega arith) (c.entry-8.ensures.near (omega arith)) (c.entry-8.ensures.far (omega arith)))
    ∙ reversed (late looked (c.args.a ∷ c.args.b ∷ c.args.c ∷ c.args.d ∷ [])) (looked 7 (c.args.x % 256)) (looked 6 (c.args.x / 256 % 256)) (looked 5 (c.args.x / 65536 % 256)) (looked 4 (c.args.x / 16777216 % 256))))
    (paired _ (omega arith) (omega arith, (omega arith, (omega arith, (omega arith, (omega arith, (omega arith, (omega arith, (omega arith, tt)))))))))

use Rattle.std.proofs.Common.{◌≡◌, ℕ, ◌+◌, ◌*◌, ◌/◌, ◌%◌, ◌^◌, sym, ap, ◌∙◌, arith}
use native.Mathlib.Nat.{mod-add-mod, add-mul-mod_self_left}
use Rattle.index.specs.Hash.{with_word}
use Rattle.index.proofs.hash.with_word.Goals as goal

-- what the product drops of eight times x is a multiple of 2^64
nine : (x w : ℕ) → ((x + x % 2 ^ 61 * 8) % 2 ^ 64 + w) % 2 ^ 64 ≡ (9 * x + w) % 2 ^ 64
nine x w =
    let kept = x + x % 2 ^ 61 * 8 + w in
    let all : kept + 2 ^ 64 * (x / 2 ^ 61) ≡ 9 * x + w = omega arith in
    mod-add-mod (x + x % 2 ^ 61 * 8) (2 ^ 64) w ∙ sym (add-mul-mod_self_left kept (2 ^ 64) (x / 2 ^ 61)) ∙ ap (λ (n : ℕ). n % 2 ^ 64) all

pub returns : goal.returns
unfolding with_word
returns c = nine c.args.x c.args.word

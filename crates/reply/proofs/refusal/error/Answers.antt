-- The text is the model's, and the reply's one piece.
use Rattle.std.proofs.Common.{◌≡◌, ◌++◌, ◌-◌, [], List, ℕ, get_or, sym, ap, subst}
use Rattle.model.specs.Bytes.{text}
use Rattle.model.specs.Resp.{Reply, one, error}
use Rattle.model.specs.Call.{messages, error_reply}
use Rattle.outcome.specs.Outcome.{number_of}
use Rattle.reply.specs.Replied.{FitsIn}
use Rattle.reply.proofs.Writing.{Begun, begin, room, next, replied}
use Rattle.reply.proofs.refusal.error.Goals as goal

-- the reply has the text m
told : (n : ℕ) {m : List ℕ} → m ≡ text "ERR " ++ get_or messages (n - 5) [] → error_reply n ≡ one (error m)
told n e = ap (λ (l : List ℕ). one (error l)) (sym e)

pub put_error-len-requires : goal.put_error-len-requires
put_error-len-requires c =
    let e = told (number_of c.args.refusal) c.message.ensures in
    let b : Begun (one (error c.message.result.now)) c.args.reply.now = begin (subst (λ (r : Reply). FitsIn r c.args.reply.now) e c.requires.0) in
    room b

pub returns : goal.returns
returns c =
    let e = told (number_of c.args.refusal) c.message.ensures in
    let b : Begun (one (error c.message.result.now)) c.args.reply.now = begin (subst (λ (r : Reply). FitsIn r c.args.reply.now) e c.requires.0) in
    rw (e, c.number.ensures) (replied (next b c.put_error-len.ensures))

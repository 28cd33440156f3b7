use Rattle.x_value.proofs.Sound.{some_value}
use Rattle.x_value.proofs.Unique.{one_value}
use Rattle.x_value.proofs.laws.enc_law.Goals as goal

pub returns : goal.returns
returns c = record {
  one = λ s l p v w x y. one_value s l p v w x y;
  some = λ s sound form lt p. some_value s form p sound lt;
}

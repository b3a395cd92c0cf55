use Rattle.std.proofs.Common.{IsSome}
use Rattle.std.specs.Str.{IsUtf8}
use Rattle.cstn_markup.specs.Bytes.{resolved}
use Rattle.cstn_markup.proofs.Given.{attributes_right, value_found}
use Rattle.cstn_markup.proofs.Places.{attributes_utf8}
use Rattle.cstn_markup.proofs.attributes.Attributes.get.Goals as goal

pub returns-clause-right : goal.returns-clause-right
returns-clause-right c = value_found (λ raw. IsSome (resolved raw)) _ _ _ (attributes_right 32 c.self.inside.behind.now) c.raw_with.ensures

pub returns-clause-utf8 : goal.returns-clause-utf8
returns-clause-utf8 c = value_found (λ raw. IsUtf8 raw) _ _ _ (attributes_utf8 32 c.self.inside.behind.now c.self.invariant.1) c.raw_with.ensures

-- The members of an object that lines of tests have.
use Rattle.std.specs.Prelude.{◌≡◌, codes, option_map}
use Rattle.serde_json.specs.Data.{Data}
use Rattle.serde_json.specs.Find.{get}
use Rattle.serde_json.specs.View.{view}
use Rattle.test_report_events.specs.declared.members.Members.{Members}

-- these are the members of this object
pub record AreMembersOf (d : Data) (m : Members) : Type 0 where
  pub kind : option_map (λ v. view v.now) m.kind ≡ get (codes "type") d
  pub event : option_map (λ v. view v.now) m.event ≡ get (codes "event") d
  pub name : option_map (λ v. view v.now) m.name ≡ get (codes "name") d
  pub stdout : option_map (λ v. view v.now) m.stdout ≡ get (codes "stdout") d
  pub message : option_map (λ v. view v.now) m.message ≡ get (codes "message") d
  pub reason : option_map (λ v. view v.now) m.reason ≡ get (codes "reason") d
  pub time : option_map (λ v. view v.now) m.time ≡ get (codes "exec_time") d

-- What a member reads of a request that another one hands on.
use Rattle.std.specs.Prelude.{◌≡◌, ℕ, List, ◌++◌, length, Some}
use Rattle.zot_head.specs.declared.head.Head.{Head}
use Rattle.zot_head.specs.Front.{IsHead}
use Rattle.zot_head.specs.Lines.{head_end}
use Rattle.zot_model.specs.declared.request.Request.{Request}
use Rattle.zot_route.specs.declared.routed.Routed.TheVariants as routes
use Rattle.zot_route.specs.Routes.{Routes}

-- What is read of a head and the body behind it, however long the head is. It ends where the body begins, whatever
-- follows; it is one that is read; and whatever it is read as, it and the body ask the request.
pub record IsReadAs (request : Request) (head body : List ℕ) : Type 0 where
  pub ends : (more : List ℕ) → head_end (head ++ body ++ more) ≡ Some (length head)
  pub reads : (read : Head) × IsHead head read
  pub asks : (read : Head) → IsHead head read → Routes read body (routes.Request request)

use Rattle.mst_sharded_script.proofs.Names.{◌≡◌, true, refl, Get, Pin, Node, Rows, Unpin, text_of, is_look}
use Rattle.mst_sharded_script.proofs.Stepping.{other_looks, acts_as, acts_look}
use Rattle.mst_sharded_script.proofs.asking.read.Goals as goal

pub look-requires : goal.look-requires
look-requires g c =
    let q = c.requires in
    let o = c.in_default in
    record {
      look = other_looks c.args.command.now q.put q.remove q.batch q.other o.not-Get o.not-Pin
          o.not-Node o.not-Rows o.not-Unpin;
    }

pub returns-in_default : goal.returns-in_default
returns-in_default g c =
    let q = c.requires in
    let o = c.in_default in
    let is : is_look c.args.command.now ≡ true = other_looks c.args.command.now q.put q.remove
    q.batch q.other o.not-Get o.not-Pin o.not-Node o.not-Rows o.not-Unpin in
    λ w. acts_look c.args.command.now c.args.before w c.args.reader (text_of c.look.result.0)
    c.look.result.1 is c.look.ensures

pub returns-in-Get : goal.returns-in-Get
returns-in-Get g c = λ w.
    acts_as c.args.command.now (Get c.in-Get.key) c.args.before w c.args.reader
    (text_of c.get.result.0) w c.get.result.1 c.in-Get.is (c.get.ensures.gets, refl)

pub returns-in-Pin : goal.returns-in-Pin
returns-in-Pin g c = λ w.
    acts_as c.args.command.now Pin c.args.before w c.args.reader (text_of c.pin.result.0) w
    c.pin.result.1 c.in-Pin.is (c.pin.ensures, refl)
